-- Laws of `All` and `bytes_to`, for any element.
use mathlib.Core.Path.{◌≡◌}
use mathlib.Core.List.{List, [], ◌∷◌, ◌++◌}
use Prim.Native.Nat.{ℕ, zero, suc, ◌+◌, ◌≤◌, ◌<◌}
use native.Mathlib.Numerals.{add-one}
use native.Mathlib.Decide.{dec_lt}
use native.Mathlib.Omega.{arith}
use lib.ListN.{length, get_or, length-append}
use Rattle.region_graph.specs.Lists.{All}
use Rattle.region_archive.specs.RecordFields.{bytes_to}

-- the element at a place, or the one that stands for those past the end
pub all_or : {A : Type 0} (P : A → Type 0) (l : List A) (i : ℕ) (d : A) → P d → All P l → P (get_or l i d)
all_or P [] i d h a = h
all_or P (x ∷ l) zero d h a = a.0
all_or P (x ∷ l) (suc i) d h a = all_or P l i d h a.1

-- the first fields of a value, in bytes
module _ {A : Type 0} (bytes : ℕ → A → List ℕ) where
  -- one field more
  pub bytes_next : (k : ℕ) (x : A) → bytes_to bytes (k + 1) x ≡ bytes_to bytes k x ++ bytes k x
  bytes_next k x = rw add-one

  -- a field below n is within the bytes of the first n
  pub bytes_within : (n k : ℕ) (x : A) → k < n → length (bytes_to bytes k x) + length (bytes k x) ≤ length (bytes_to bytes n x)
  bytes_within zero k x h = absurd (omega arith)
  bytes_within (suc n) k x h = go (dec_lt k n) (bytes_within n k x)
    where
      go : Dec (k < n) → (k < n → length (bytes_to bytes k x) + length (bytes k x) ≤ length (bytes_to bytes n x))
          → length (bytes_to bytes k x) + length (bytes k x) ≤ length (bytes_to bytes n x ++ bytes n x)
      go (yes l) r = omega (arith, r l, length-append (bytes_to bytes n x) (bytes n x))
      go (no l) r =
          let e : k ≡ n = omega arith in
          rw e (omega (arith, length-append (bytes_to bytes n x) (bytes n x)))
