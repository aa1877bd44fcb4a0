-- The chains of a table, the walk along one, and what a loop over the places that it gives comes to.
use mathlib.Core.Path.{◌≡◌, refl, sym, ap, subst, ◌∙◌}
use mathlib.Core.Bool.{Bool, true, false}
use mathlib.Core.List.{List, [], ◌∷◌}
use Prim.Native.Nat.{ℕ, zero, suc, ◌+◌, ◌-◌, ◌<◌, ◌≤◌}
use native.Mathlib.Numerals.{add-one}
use native.Mathlib.Omega.{arith}
use lib.Dec.{eqb}
use lib.ListN.{length, get_or, set, drop, replicate, length-set, length-replicate, get_or-replicate, drop_of_length-le}
use lib.Seq.{get_or-set_same, get_or-set_other, drop-cons, drop-length}
use borrow.Author.Tests.{eq-eqb, ne_eqb, eqb-true, eqb-false}
use Rattle.std.specs.List.{fold}
use Rattle.region_graph.specs.Lists.{pick, position, All}
use Rattle.region_routes.specs.Tables.{number_in, most_entries}
use Rattle.region_routes.specs.Chains.{chains, chain, next_in, Chained, Standing, places_of, places_left}

-- the next place of a chain, by the entry at a place
module _ (es : List ℕ) (c : ℕ) where
  next_end : next_in es c (length es) ≡ length es
  unfolding next_in
  next_end = rw (drop-length es) (omega arith)

  module _ (i : ℕ) (h : i < length es) where
    next_by : next_in es c i
        ≡ i + pick (eqb (chain (number_in (get_or es i 0))) c) 0 (suc (position (λ e. eqb (chain (number_in e)) c) (drop (suc i) es)))
    unfolding next_in
    next_by = ap (λ (l : List ℕ). i + position (λ e. eqb (chain (number_in e)) c) l) (drop-cons es i 0 h)

    next_here : chain (number_in (get_or es i 0)) ≡ c → next_in es c i ≡ i
    next_here e = next_by ∙ rw (eq-eqb (chain (number_in (get_or es i 0))) c e) (omega arith)

    next_past : (chain (number_in (get_or es i 0)) ≡ c → ⊥) → next_in es c i ≡ next_in es c (i + 1)
    unfolding next_in
    next_past f = next_by ∙ rw (ne_eqb (chain (number_in (get_or es i 0))) c f, add-one) (omega arith)

-- the chains of the entries from place i on
pub record Linking (es links : List ℕ) (i : ℕ) : Type 0 where
  pub upto : i ≤ length es
  pub few : length es ≤ most_entries
  pub long : length links ≡ chains + most_entries
  pub first : (c : ℕ) → c < chains → get_or links c 0 ≡ next_in es c i
  pub next : (j : ℕ) → i ≤ j → j < length es → get_or links (chains + j) 0 ≡ next_in es (chain (number_in (get_or es j 0))) (j + 1)

pub linking_start : (es : List ℕ) → length es ≤ most_entries → Linking es (replicate (chains + most_entries) (length es)) (length es)
linking_start es h = record {
  upto = omega arith;
  few = h;
  long = length-replicate (chains + most_entries) (length es);
  first = λ c l. get_or-replicate (chains + most_entries) c (length es) 0 (omega arith) ∙ sym (next_end es c);
  next = λ j l k. absurd (omega arith);
}

-- one entry more: it links to the first one of its chain, and is the first
module _ (es links : List ℕ) (i c : ℕ) (own : chain (number_in (get_or es i 0)) ≡ c) (low : c < chains) (l : Linking es links (i + 1)) where
  pub linking_more : Linking es (set (set links (chains + i) (get_or links c 0)) c i) i
  linking_more = record {
    upto = omega (arith, l.upto);
    few = l.few;
    long = length-set (set links (chains + i) v) c i ∙ wide;
    first = λ k h. starts k h (eqb k c) refl;
    next = λ j a b. follows j a b (eqb j i) refl;
  }
    where
      v : ℕ
      v = get_or links c 0

      here : i < length es
      here = omega (arith, l.upto)

      wide : length (set links (chains + i) v) ≡ chains + most_entries
      wide = length-set links (chains + i) v ∙ l.long

      starts : (k : ℕ) → k < chains → (t : Bool) → eqb k c ≡ t → get_or (set (set links (chains + i) v) c i) k 0 ≡ next_in es k i
      starts k h true q =
          let s : k ≡ c = eqb-true k c q in
          rw s (get_or-set_same (set links (chains + i) v) c i 0 (omega (arith, wide)) ∙ sym (next_here es c i here own))
      starts k h false q =
          let f = eqb-false k c q in
          get_or-set_other (set links (chains + i) v) c k i 0 f ∙ get_or-set_other links (chains + i) k v 0 (λ e. omega arith)
          ∙ l.first k h ∙ sym (next_past es k i here (λ e. f (sym e ∙ own)))

      follows : (j : ℕ) → i ≤ j → j < length es → (t : Bool) → eqb j i ≡ t
          → get_or (set (set links (chains + i) v) c i) (chains + j) 0 ≡ next_in es (chain (number_in (get_or es j 0))) (j + 1)
      follows j a b true q =
          let s : j ≡ i = eqb-true j i q in
          rw s
          (get_or-set_other (set links (chains + i) v) c (chains + i) i 0 (λ e. omega arith)
          ∙ get_or-set_same links (chains + i) v 0 (omega (arith, l.long, l.few, here))
          ∙ l.first c low ∙ ap (λ (k : ℕ). next_in es k (i + 1)) (sym own))
      follows j a b false q =
          let f = eqb-false j i q in
          get_or-set_other (set links (chains + i) v) c (chains + j) i 0 (λ e. omega arith)
          ∙ get_or-set_other links (chains + i) (chains + j) v 0 (λ e. omega (arith, f))
          ∙ l.next j (omega (arith, f)) b

pub linking_end : {es links : List ℕ} → Linking es links 0 → Chained es links
linking_end l = record { few = l.few; long = l.long; first = l.first; next = λ i h. l.next i (omega arith) h }

-- the places of a number from place i on, by the entry there
module _ (es : List ℕ) (n : ℕ) where
  pub left_none : (i : ℕ) → length es ≤ i → places_left es n i ≡ []
  unfolding places_left
  left_none i h = rw (drop_of_length-le es h)

  module _ (i : ℕ) (h : i < length es) where
    left_by : places_left es n i ≡ pick (eqb (number_in (get_or es i 0)) n) (i ∷ places_left es n (i + 1)) (places_left es n (i + 1))
    unfolding places_left
    left_by = ap (λ (l : List ℕ). places_of l n i) (drop-cons es i 0 h) ∙ rw add-one refl

    pub left_own : number_in (get_or es i 0) ≡ n → places_left es n i ≡ i ∷ places_left es n (i + 1)
    left_own e = left_by ∙ rw (eq-eqb (number_in (get_or es i 0)) n e)

    pub left_other : (number_in (get_or es i 0) ≡ n → ⊥) → places_left es n i ≡ places_left es n (i + 1)
    left_other f = left_by ∙ rw (ne_eqb (number_in (get_or es i 0)) n f)

-- a walk stands at a place, and what it has left there is what is left at place i
pub record Reaching (es links : List ℕ) (n i j : ℕ) : Type 0 where
  pub standing : Standing es links n j
  pub same : places_left es n i ≡ places_left es n j

module _ {es links : List ℕ} {n : ℕ} (c : Chained es links) where
  -- from place i on, to the next place of the chain
  reaching_from : (k i : ℕ) → i + k ≡ length es → Reaching es links n i (next_in es (chain n) i)
  reaching_from zero i e =
      let s : i ≡ length es = omega arith in
      let t : next_in es (chain n) i ≡ i = rw s (next_end es (chain n)) in
      rw t (record { standing = record { chained = c; upto = omega arith; own = λ l. absurd (omega arith) }; same = refl })
  reaching_from (suc k) i e = go (eqb (chain (number_in (get_or es i 0))) (chain n)) refl (reaching_from k (i + 1) (omega arith))
    where
      h : i < length es
      h = omega arith

      go : (t : Bool) → eqb (chain (number_in (get_or es i 0))) (chain n) ≡ t → Reaching es links n (i + 1) (next_in es (chain n) (i + 1))
          → Reaching es links n i (next_in es (chain n) i)
      go true q r =
          let own = eqb-true (chain (number_in (get_or es i 0))) (chain n) q in
          rw (next_here es (chain n) i h own) (record { standing = record { chained = c; upto = omega arith; own = λ l. own }; same = refl })
      go false q r =
          let f = eqb-false (chain (number_in (get_or es i 0))) (chain n) q in
          rw (next_past es (chain n) i h f)
          (record { standing = r.standing; same = left_other es n i h (λ e. f (ap chain e)) ∙ r.same })

  pub reaching_first : {j : ℕ} → j ≡ get_or links (chain n) 0 → Reaching es links n 0 j
  reaching_first e = rw (e ∙ c.first (chain n) (omega arith)) (reaching_from (length es) 0 (omega arith))

-- the entry at the walk's place has a link, to a place further on
module _ {es links : List ℕ} {n i : ℕ} (w : Standing es links n i) (h : i < length es) where
  module _ {j : ℕ} (e : j ≡ get_or links (chains + i) 0) where
    pub link_further : i < j
    unfolding next_in
    link_further = omega (arith, e, w.chained.next i h)

    pub link_reaches : Reaching es links n (i + 1) j
    link_reaches =
        rw (e ∙ w.chained.next i h ∙ ap (λ (k : ℕ). next_in es k (i + 1)) (w.own h))
        (reaching_from w.chained (length es - (i + 1)) (i + 1) (omega arith))

-- what is so of a state at a place, and stays so past an entry of another number and with each entry of the number, is so at the table's end
-- of the state that a fold over the number's places makes
module _ {S : Type 0} (P : S → ℕ → Type 0) (f : S → ℕ → S) (es : List ℕ) (n : ℕ)
    (other : (x : S) (i : ℕ) → i < length es → eqb (number_in (get_or es i 0)) n ≡ false → P x i → P x (i + 1))
    (own : (x : S) (i : ℕ) → i < length es → eqb (number_in (get_or es i 0)) n ≡ true → P x i → P (f x i) (i + 1)) where
  walked_from : (k i : ℕ) → i + k ≡ length es → (x : S) → P x i → P (fold f x (places_left es n i)) (length es)
  walked_from zero i e x p =
      let s : i ≡ length es = omega arith in
      rw (left_none es n i (omega arith)) (subst (P x) s p)
  walked_from (suc k) i e x p = go (eqb (number_in (get_or es i 0)) n) refl (walked_from k (i + 1) (omega arith))
    where
      h : i < length es
      h = omega arith

      go : (t : Bool) → eqb (number_in (get_or es i 0)) n ≡ t → ((y : S) → P y (i + 1) → P (fold f y (places_left es n (i + 1))) (length es))
          → P (fold f x (places_left es n i)) (length es)
      go true q r = rw (left_own es n i h (eqb-true (number_in (get_or es i 0)) n q)) (r (f x i) (own x i h q p))
      go false q r = rw (left_other es n i h (eqb-false (number_in (get_or es i 0)) n q)) (r x (other x i h q p))

  pub walked : (x : S) → P x 0 → P (fold f x (places_left es n 0)) (length es)
  walked = walked_from (length es) 0 (omega arith)

-- the places of a number are within the table
inside_from : (es : List ℕ) (n k i : ℕ) → i + k ≡ length es → All (λ j. j < length es) (places_left es n i)
inside_from es n zero i e = rw (left_none es n i (omega arith)) tt
inside_from es n (suc k) i e = go (eqb (number_in (get_or es i 0)) n) refl (inside_from es n k (i + 1) (omega arith))
  where
    go : (t : Bool) → eqb (number_in (get_or es i 0)) n ≡ t → All (λ j. j < length es) (places_left es n (i + 1)) → All (λ j. j < length es) (places_left es n i)
    go true q r = rw (left_own es n i (omega arith) (eqb-true (number_in (get_or es i 0)) n q)) (omega arith, r)
    go false q r = rw (left_other es n i (omega arith) (eqb-false (number_in (get_or es i 0)) n q)) r

pub places_inside : (es : List ℕ) (n : ℕ) → All (λ i. i < length es) (places_left es n 0)
places_inside es n = inside_from es n (length es) 0 (omega arith)

-- a loop over places below a size: of those that are left it makes what all of them come to
pub record Walking {A : Type 0} (size : ℕ) (value : List ℕ → A) (total : A) (left : List ℕ) : Type 0 where
  pub inside : All (λ i. i < size) left
  pub same : value left ≡ total

pub walking_start : {A : Type 0} {left : List ℕ} {value : List ℕ → A} {total : A} (es : List ℕ) (n : ℕ) → left ≡ places_left es n 0 → value (places_left es n 0) ≡ total
    → Walking (length es) value total left
walking_start es n e f = rw e (record { inside = places_inside es n; same = f })

module _ {A : Type 0} {size : ℕ} {value : List ℕ → A} {total : A} {left : List ℕ} (w : Walking size value total left) where
  pub walking_inside : {i : ℕ} {rest : List ℕ} → left ≡ i ∷ rest → i < size
  walking_inside e = (rw e at w.inside).0

  pub walking_at : {xs : List ℕ} → left ≡ xs → value xs ≡ total
  walking_at e = rw e at w.same

  pub walking_next : {next : List ℕ → A} {i : ℕ} {rest : List ℕ} → left ≡ i ∷ rest → value (i ∷ rest) ≡ next rest → Walking size next total rest
  walking_next e f = record { inside = (rw e at w.inside).1; same = sym f ∙ walking_at e }
