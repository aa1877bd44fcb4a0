-- The bytes of a text, one by one.
use mathlib.Core.Bool.{Bool, true, false}
use mathlib.Core.List.{List, [], ◌∷◌}
use Prim.Native.Nat.{ℕ, zero, suc, ◌<◌}
use native.Mathlib.Omega.{arith}
use lib.ListN.{length, get_or}
use Rattle.std.specs.Bool.{MatchBool}
use Rattle.std.specs.List.{AllWithin, HoldsAt}
use Rattle.region_graph.specs.Lists.{All}
use Rattle.name_sheet.specs.Sheet.{Printable}
use Rattle.name_sheet.specs.Reading.{TextRead}

module _ {A : Type 0} (P : A → Type 0) where
  all_from_places : (xs : List A) → ((i : ℕ) (d : A) → i < length xs → P (get_or xs i d)) → All P xs
  all_from_places [] h = tt
  all_from_places (x ∷ xs) h = (h 0 x (omega arith), all_from_places xs (λ i d k. h (suc i) d (omega arith)))

  all_at : (xs : List A) (i : ℕ) (d : A) → i < length xs → All P xs → P (get_or xs i d)
  all_at [] i d k a = absurd (omega arith)
  all_at (x ∷ xs) zero d k a = a.0
  all_at (x ∷ xs) (suc i) d k a = all_at xs i d (omega arith) a.1

pub text_read : (s : List ℕ) (r : Bool)
    → MatchBool r (AllWithin Printable s 0 (length s)) ((i : ℕ) × (i < length s) × HoldsAt (λ b. Printable b → ⊥) s i) → TextRead s r
text_read s true h = all_from_places Printable s (λ i d k. h i d (omega arith) k)
text_read s false h = λ a. h.2 0 (all_at Printable s h.0 0 h.1 a)
