-- A set of regions as a number: region n is a member where binary digit n is set.
use Rattle.std.specs.Prelude.{Bool, ◌&&◌, List, ℕ, zero, suc, ◌+◌, ◌/◌, ◌%◌, ◌^◌, eqb, ltb}
use Rattle.region_graph.specs.Size.{regions}
use Rattle.region_graph.specs.Lists.{pick, keep, count_from}

-- digit n of x, counted from the lowest
unfoldable pub bit : ℕ → ℕ → ℕ
bit x zero = x % 2
bit x (suc n) = bit (x / 2) n

-- region n is in the set x
abbrev pub has : ℕ → ℕ → Bool
has x n = ltb n regions && eqb (bit x n) 1

-- the set that holds region n alone; a number that is no region's gives the empty set
abbrev pub singleton : ℕ → ℕ
singleton n = pick (ltb n regions) (2 ^ n) 0

-- the set of the numbers below k that pass the test
unfoldable pub set_below : ℕ → (ℕ → Bool) → ℕ
set_below zero p = 0
set_below (suc k) p = set_below k p + pick (p k) (2 ^ k) 0

-- the set of the regions that pass the test
abbrev pub set_of : (ℕ → Bool) → ℕ
set_of p = set_below regions p

-- the members in ascending order
unfoldable pub members : ℕ → List ℕ
members x = keep (has x) (count_from 0 regions)
