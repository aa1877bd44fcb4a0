-- The i-th of a list, for C.
use mathlib.Core.Path.{◌≡◌, refl, ap, ◌∙◌}
use native.Mathlib.Omega.{arith}
use Prim.Native.Nat.{ℕ, zero, suc, ◌<◌, ◌≤◌}
use mathlib.Core.List.{List, [], ◌∷◌, map}
use lib.ListN.{length, get_or}
use Rattle.region_host.specs.CNumbers.{CAnswer, answered}
use Rattle.region_host.specs.Reading.{nth_for_c}

module _ {A S : Type 0} (store : A → S) where
  -- one is there
  nth_at : (xs : List A) (i : ℕ) (none : A) (entry : S) → i < length xs → answered 1 (store (get_or xs i none)) ≡ nth_for_c store xs i entry
  nth_at [] i none entry h = absurd (omega (arith, h))
  nth_at (x ∷ xs) zero none entry h = refl
  nth_at (x ∷ xs) (suc i) none entry h = nth_at xs i none entry (omega (arith, h))

  pub nth_there : (xs : List A) (i : ℕ) (none : A) (entry : S) {s : S} → s ≡ store (get_or xs i none) → i < length xs
      → ◌≡◌ {A = CAnswer S} (answered 1 s) (nth_for_c store xs i entry)
  nth_there xs i none entry e h = ap (answered 1) e ∙ nth_at xs i none entry h

  -- none is
  pub nth_past : (xs : List A) (i : ℕ) (entry : S) → length xs ≤ i → answered 0 entry ≡ nth_for_c store xs i entry
  nth_past [] i entry h = refl
  nth_past (x ∷ xs) zero entry h = absurd (omega (arith, h))
  nth_past (x ∷ xs) (suc i) entry h = nth_past xs i entry (omega (arith, h))

  -- of the stored forms of a list it is the stored form of the i-th
  pub nth_stored : (xs : List A) (i : ℕ) (entry : S) → nth_for_c (λ s. s) (map store xs) i entry ≡ nth_for_c store xs i entry
  nth_stored [] i entry = refl
  nth_stored (x ∷ xs) zero entry = refl
  nth_stored (x ∷ xs) (suc i) entry = nth_stored xs i entry
