use Rattle.region_routes.proofs.SearchLoops.{LayerState}
use Rattle.region_routes.proofs.search.layer.Given as goal

abbrev pub invariant-loop-region : goal.invariant-loop-region
invariant-loop-region l = LayerState l.pred l.last l.next l.region-iterator.left
