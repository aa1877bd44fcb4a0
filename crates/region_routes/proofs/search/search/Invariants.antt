use Prim.Native.Nat.{◌-◌}
use Rattle.region_graph.specs.Size.{regions}
use Rattle.region_routes.proofs.SearchLoops.{SearchState}
use Rattle.region_routes.proofs.search.search.Given as goal

abbrev pub invariant-loop-sets : goal.invariant-loop-sets
invariant-loop-sets l = SearchState l.pred l.holders l.sets l.deep l.reached l.last

abbrev pub decreases-loop-sets : goal.decreases-loop-sets
decreases-loop-sets l = regions - l.deep
