use Rattle.region_graph.specs.Record.{meaning}
use Rattle.region_listing.proofs.ListingLaws.{row, Lining}
use Rattle.region_listing.proofs.listing.put_listing.Given as goal

abbrev pub invariant-loop-b : goal.invariant-loop-b
invariant-loop-b l =
    Lining (row l.bundles l.packages l.services) (meaning l.graph).bundles l.initial.buffer l.buffer l.initial.at l.at l.b-index
