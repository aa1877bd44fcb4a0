-- Laws of values whose bytes are those of fields, one after the other, for any number of fields.
use mathlib.Core.Path.{◌≡◌, refl, sym, ap, ◌∙◌, subst}
use mathlib.Core.List.{List, ◌++◌, append_assoc}
use Prim.Native.Nat.{ℕ, zero, suc, ◌+◌, ◌-◌, ◌≤◌}
use native.Mathlib.Omega.{arith}
use native.Mathlib.Nat.{zero-add, suc-add}
use lib.ListN.{length, drop, length-append}
use Rattle.big_endian.specs.Parsing.{Parsed, Unparsed}
use Rattle.big_endian.proofs.Delimits.{Delimits}
use Rattle.region_archive.specs.RecordFields.{bytes_to, SameTo, GoodTo}

-- fields that tell themselves apart; a field's goodness may lean on the fields before it
pub record FieldKinds (A : Type 0) : Type 1 where
  pub good : ℕ → A → Type 0
  pub bytes : ℕ → A → List ℕ
  pub same : ℕ → A → A → Type 0
  pub delim : (k : ℕ) → Delimits (good k) (bytes k) (same k)
  pub moves : (k : ℕ) (x y : A) → SameTo same (suc k) x y → (bytes k x ≡ bytes k y) × (good k x → good k y)

module _ {A : Type 0} (f : FieldKinds A) where
  abbrev first_bytes : ℕ → A → List ℕ
  first_bytes = bytes_to f.bytes

  pub to_same : (k : ℕ) → Delimits (GoodTo f.good k) (first_bytes k) (SameTo f.same k)
  to_same zero x y r t h g e = (tt, e)
  to_same (suc k) x y r t h g e =
      let d = sym (append_assoc (first_bytes k x) (f.bytes k x) r) ∙ e ∙ append_assoc (first_bytes k y) (f.bytes k y) t in
      let a = to_same k x y (f.bytes k x ++ r) (f.bytes k y ++ t) h.0 g.0 d in
      let b = f.delim k x y r t h.1 g.1 a.1 in
      ((a.0, b.0), b.1)

  to_moves : (k : ℕ) (x y : A) → SameTo f.same k x y → (first_bytes k x ≡ first_bytes k y) × (GoodTo f.good k x → GoodTo f.good k y)
  to_moves zero x y h = (refl, λ g. tt)
  to_moves (suc k) x y h =
      let a = to_moves k x y h.0 in
      let b = f.moves k x y h in
      ((λ i. a.0 i ++ b.0 i), λ g. (a.1 g.0, b.1 g.1))

  module _ {s : List ℕ} {start : ℕ} where
    pub to_none : (x : A) → start ≤ length s → Parsed (GoodTo f.good 0) (first_bytes 0) s start x start
    to_none x h = record { is_good = tt; shape = refl; ends = omega arith; room = h }

    module _ (k : ℕ) {x : A} {at : ℕ} (p : Parsed (GoodTo f.good k) (first_bytes k) s start x at) where
      -- field k of a value whose fields before it are those of x
      abbrev Next : A → Type 0
      Next z = SameTo f.same k x z × f.good k z

      pub to_more : {y : A} {next : ℕ} → Parsed Next (f.bytes k) s at y next
          → Parsed (GoodTo f.good (suc k)) (first_bytes (suc k)) s start y next
      to_more {y} {next} q =
          let m = to_moves k x y q.is_good.0 in
          record {
            is_good = (m.1 p.is_good, q.is_good.1);
            shape = p.shape ∙ (λ i. m.0 i ++ q.shape i) ∙ sym (append_assoc (first_bytes k y) (f.bytes k y) (drop next s));
            ends = rw length-append (omega (arith, p.ends, q.ends, ap length m.0));
            room = q.room;
          }

      pub to_stuck : Unparsed Next (f.bytes k) s at → Unparsed (GoodTo f.good (suc k)) (first_bytes (suc k)) s start
      to_stuck u y r h e =
          let g = sym p.shape ∙ e ∙ append_assoc (first_bytes k y) (f.bytes k y) r in
          let d = to_same k x y (drop at s) (f.bytes k y ++ r) p.is_good h.0 g in
          u y r (d.0, h.1) d.1

  module _ (s : List ℕ) (start : ℕ) where
    to_longer : (k d : ℕ) → Unparsed (GoodTo f.good k) (first_bytes k) s start
        → Unparsed (GoodTo f.good (d + k)) (first_bytes (d + k)) s start
    to_longer k zero u = rw zero-add u
    to_longer k (suc d) u =
        rw suc-add (λ y r h e. to_longer k d u y (f.bytes (d + k) y ++ r) h.0 (e ∙ append_assoc (first_bytes (d + k) y) (f.bytes (d + k) y) r))

    -- a value whose first k fields are not there
    pub to_all : (k n : ℕ) → k ≤ n → Unparsed (GoodTo f.good k) (first_bytes k) s start → Unparsed (GoodTo f.good n) (first_bytes n) s start
    to_all k n h u =
        let e : n - k + k ≡ n = omega arith in
        subst (λ (m : ℕ). Unparsed (GoodTo f.good m) (first_bytes m) s start) e (to_longer k (n - k) u)
