use Rattle.region_graph.proofs.FlatLoops.{Regions}
use Rattle.region_graph.proofs.flat.region_list.Given as goal

abbrev pub invariant-loop-region : goal.invariant-loop-region
invariant-loop-region l = Regions l.list l.set l.region-index
