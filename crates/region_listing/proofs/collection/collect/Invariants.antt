use lib.ListN.{take}
use Rattle.region_graph.specs.Record.{meaning}
use Rattle.region_listing.specs.Listing.{held}
use Rattle.region_listing.specs.Counts.{Collected}
use Rattle.region_listing.proofs.collection.collect.Given as goal

abbrev pub invariant-loop-b : goal.invariant-loop-b
invariant-loop-b l = Collected l.all (held l.kind (take l.b-index (meaning l.graph).bundles))
