use mathlib.Core.Path.{◌≡◌}
use lib.ListN.{length}
use Rattle.region_graph.specs.Record.{packages_of}
use Rattle.region_graph.specs.Places.{PackagesStored}
use Rattle.region_listing.specs.Counts.{items_in}
use Rattle.region_listing.proofs.Collecting.{Joining}
use Rattle.region_listing.proofs.collection.Collection.join.Given as goal

abbrev pub invariant-loop-i : goal.invariant-loop-i
invariant-loop-i l =
    (l.list.count ≡ length (packages_of l.list)) × PackagesStored l.list
    × Joining (items_in l.initial.self) (packages_of l.list) l.self.numbers l.self.versions l.self.count l.i
