use Rattle.std.proofs.Common.{◌≡◌, ◌-◌, ◌≤◌, ◌++◌, length, take, drop, replicate}
use Rattle.std.specs.Fn.{FnReturnsAt}
use Rattle.std.proofs.lemmas.List.Filters.{FiltersInPlace}
use Rattle.region_graph.specs.Places.{Tests}
use Rattle.region_graph.proofs.places.retain.Given as goal

abbrev pub invariant-loop-i : goal.invariant-loop-i
invariant-loop-i g l =
    (l.kept ≤ l.i) × (length l.items ≡ length l.initial.items)
    × ((p : _) → Tests (FnReturnsAt g.F.Fn l.keeps) p → FiltersInPlace p l.initial.items l.items l.kept l.i)

abbrev pub invariant-loop-left : goal.invariant-loop-left
invariant-loop-left g l = l.items ≡ take l.kept l.initial.items ++ (replicate (l.left - l.kept) l.blank ++ drop l.left l.initial.items)
