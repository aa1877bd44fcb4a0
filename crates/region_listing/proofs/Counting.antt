-- Laws of counting: the members of a set, one by one, and the items of a list that each region sees.
use mathlib.Core.Path.{◌≡◌, refl, sym, ap, ◌∙◌, subst}
use mathlib.Core.Bool.{Bool, true, false}
use mathlib.Core.List.{List, [], ◌∷◌}
use mathlib.Core.Logic.{◌⊎◌, inl, inr}
use Prim.Native.Nat.{ℕ, ◌+◌, ◌≤◌, ◌<◌, ◌^◌}
use native.Mathlib.Numerals.{add-one}
use native.Mathlib.Decide.{ℕ_discrete}
use native.Mathlib.Omega.{arith}
use lib.ListN.{length, get_or, take, set, replicate, length-append, length-set, length-take, get_or-replicate}
use lib.Seq.{take-suc, take_all, get_or-set_same, get_or-set_other}
use Rattle.region_graph.specs.Size.{regions}
use Rattle.region_graph.specs.Lists.{pick, keep}
use Rattle.region_graph.specs.Sets.{bit, set_of}
use Rattle.region_graph.specs.Model.{Model, Package}
use Rattle.region_graph.specs.declared.Item.{Item}
use Rattle.region_graph.proofs.Lists.{keep_append, keep_length}
use Rattle.region_graph.proofs.Columns.{no_package}
use Rattle.region_graph.proofs.Bits.{bit_le, bit_zero, bit_set_below}
use Rattle.region_routes.specs.Chosen.{sees}
use Rattle.region_routes.specs.Hooks.{kind_number, item}
use Rattle.region_routes.specs.Search.{In}
use Rattle.region_routes.specs.declared.Kind.{Kind}
use Rattle.region_routes.proofs.SetLaws.{in_dec}
use Rattle.region_routes.proofs.SearchLoops.{Taken}
use Rattle.region_listing.specs.Listing.{held, seen_from}
use Rattle.region_listing.specs.Counts.{most_different, CountsFit, CountedOnce, Counted}

-- sets that have a member both or neither
same_digit : (a b n : ℕ) → (In a n → In b n) → (In b n → In a n) → bit a n ≡ bit b n
same_digit a b n f g = go (in_dec a n)
  where
    go : In a n ⊎ (In a n → ⊥) → bit a n ≡ bit b n
    go (inl h) = h ∙ sym (f h)
    go (inr u) =
        let v : In b n → ⊥ = λ k. u (g k) in
        omega (arith, u, v, bit_le a n, bit_le b n)

-- the members of `set` are counted, but for those that are left
pub record Adding (counts : List ℕ) (set : ℕ) (next : List ℕ) (left : ℕ) : Type 0 where
  pub word : left < 2 ^ 64
  pub size : length next ≡ regions
  pub each : (r : ℕ) → r < regions → get_or next r 0 + bit left r ≡ get_or counts r 0 + bit set r

module _ {counts : List ℕ} {all : ℕ} where
  pub adding_start : CountsFit counts → all < 2 ^ 64 → Adding counts all counts all
  adding_start f w = record { word = w; size = f.size; each = λ r k. refl }

  -- a count of a region has room for one more
  pub adding_room : CountsFit counts → {next : List ℕ} {left r : ℕ} → Adding counts all next left → r < regions → get_or next r 0 ≤ most_different + 1
  adding_room f {left = left} {r} a h = omega (arith, a.each r h, f.few r h, bit_le all r)

  -- one member is counted
  pub adding_more : {next : List ℕ} {left r rest : ℕ} → Adding counts all next left → Taken left r rest
      → Adding counts all (set next r (get_or next r 0 + 1)) rest
  adding_more {next} {left} {r} {rest} a t =
      record {
        word = omega (arith, t.less, a.word);
        size = length-set next r (get_or next r 0 + 1) ∙ a.size;
        each = λ n h. go n h (ℕ_discrete n r);
      }
    where
      v : ℕ
      v = get_or next r 0 + 1

      here : get_or (set next r v) r 0 + bit rest r ≡ get_or counts r 0 + bit all r
      here =
          omega (
            arith,
            get_or-set_same next r v 0 (omega (arith, a.size, t.low)),
            t.gone,
            bit_le rest r,
            t.inside,
            a.each r t.low,
          )

      other : (n : ℕ) → (n ≡ r → ⊥) → (n ≡ r) ⊎ In rest n → In rest n
      other n u (inl e) = absurd (u e)
      other n u (inr h) = h

      go : (n : ℕ) → n < regions → Dec (n ≡ r) → get_or (set next r v) n 0 + bit rest n ≡ get_or counts n 0 + bit all n
      go n h (yes e) = subst (λ (k : ℕ). get_or (set next r v) k 0 + bit rest k ≡ get_or counts k 0 + bit all k) (sym e) here
      go n h (no u) =
          omega (arith, get_or-set_other next r n v 0 u, a.each n h, same_digit rest left n (t.kept n) (λ k. other n u (t.still n k)))

  -- none is left
  pub adding_end : {next : List ℕ} {left : ℕ} → left ≡ 0 → Adding counts all next left → CountedOnce counts all next
  adding_end {next} {left} e a =
      record { size = a.size; each = λ r h. omega (arith, a.each r h, ap (λ (x : ℕ). bit x r) e, bit_zero r) }

-- how many of a list pass a test: one element more
keep_more : {A : Type 0} (p : A → Bool) (xs : List A) (i : ℕ) (d : A) → i < length xs
    → length (keep p (take (i + 1) xs)) ≡ length (keep p (take i xs)) + pick (p (get_or xs i d)) 1 0
keep_more p xs i d h =
    let x = get_or xs i d in
    ap (λ l. length (keep p l)) (ap (λ (k : ℕ). take k xs) (add-one i) ∙ take-suc xs i d h) ∙ ap length (keep_append p (take i xs) (x ∷ []))
    ∙ length-append (keep p (take i xs)) (keep p (x ∷ [])) ∙ ap (λ (n : ℕ). length (keep p (take i xs)) + n) (one (p x))
  where
    one : (b : Bool) → length (pick b (get_or xs i d ∷ []) []) ≡ pick b 1 0
    one true = refl
    one false = refl

-- a package as an item of a kind
abbrev pub item_of : ℕ → Package → Item
item_of kind p = item kind p.number p.version

-- for each region how many of the first i packages it sees, as items of a kind
pub record Tally (m : Model) (kind : ℕ) (ps : List Package) (counts : List ℕ) (i : ℕ) : Type 0 where
  pub size : length counts ≡ regions
  pub each : (r : ℕ) → r < regions → get_or counts r 0 ≡ length (keep (λ p. sees m (item_of kind p) r) (take i ps))

module _ {m : Model} {kind : ℕ} {ps : List Package} where
  pub tally_none : Tally m kind ps (replicate regions 0) 0
  tally_none = record { size = refl; each = λ r h. get_or-replicate regions r 0 0 h }

  module _ {counts : List ℕ} {i : ℕ} (t : Tally m kind ps counts i) where
    -- no count is above the count of the packages
    pub tally_fits : length ps ≤ most_different → CountsFit counts
    tally_fits h =
        record {
          size = t.size;
          few = λ r k. omega (arith, t.each r k, keep_length (λ p. sees m (item_of kind p) r) (take i ps), length-take i ps);
        }

    -- one package more
    pub tally_more : {x : Package} {set : ℕ} {next : List ℕ} → i < length ps → x ≡ get_or ps i no_package → set ≡ set_of (sees m (item_of kind x))
        → CountedOnce counts set next → Tally m kind ps next (i + 1)
    tally_more {x} {set} {next} h e f c = record { size = c.size; each = go }
      where
        go : (r : ℕ) → r < regions → get_or next r 0 ≡ length (keep (λ p. sees m (item_of kind p) r) (take (i + 1) ps))
        go r k =
            let p : Package → Bool = λ q. sees m (item_of kind q) r in
            let d : bit set r ≡ pick (p (get_or ps i no_package)) 1 0 =
            ap (λ (s : ℕ). bit s r) f ∙ bit_set_below regions (sees m (item_of kind x)) r k ∙ ap (λ (q : Package). pick (p q) 1 0) e in
            omega (arith, c.each r k, t.each r k, d, keep_more p ps i no_package h)

-- all packages
pub tally_all : {m : Model} {k : Kind} {counts : List ℕ} {i : ℕ} → length (held k m.bundles) ≤ i → Tally m (kind_number k) (held k m.bundles) counts i
    → Counted m k counts
unfolding seen_from
tally_all {m} {k} {counts} {i} h t =
    let ps = held k m.bundles in
    record {
      size = t.size;
      each = λ r l. t.each r l ∙ ap (λ (xs : List Package). length (keep (λ p. sees m (item_of (kind_number k) p) r) xs)) (take_all i ps h);
    }
