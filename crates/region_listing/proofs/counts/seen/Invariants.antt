use Rattle.region_graph.specs.Record.{meaning}
use Rattle.region_listing.specs.Counts.{items_in, Collected}
use Rattle.region_listing.proofs.Counting.{Tally}
use Rattle.region_listing.proofs.counts.seen.Given as goal

abbrev pub invariant-loop-i : goal.invariant-loop-i
invariant-loop-i l = Collected l.all (items_in l.all) × Tally (meaning l.graph) l.code (items_in l.all) l.counts l.i
