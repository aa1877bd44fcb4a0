-- What it is to write bytes at a place of a buffer.
use Rattle.std.specs.Prelude.{◌≡◌, List, ◌++◌, ℕ, ◌+◌, ◌≤◌, length, take, drop}

-- new is old with the bytes xs from `at` to `next`
pub record WrittenAt (old new : List ℕ) (at : ℕ) (xs : List ℕ) (next : ℕ) : Type 0 where
  pub shape : new ≡ take at old ++ (xs ++ drop next old)
  pub ends : next ≡ at + length xs
  pub room : next ≤ length old
