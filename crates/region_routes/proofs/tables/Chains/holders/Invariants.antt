use lib.ListN.{length}
use Rattle.std.specs.List.{fold}
use Rattle.region_routes.specs.Tables.{held_in}
use Rattle.region_routes.specs.Chains.{places_left}
use Rattle.region_routes.proofs.Chaining.{Walking}
use Rattle.region_routes.proofs.Lookups.{with_holder}
use Rattle.region_routes.proofs.tables.Chains.holders.Given as goal

abbrev pub invariant-loop-i : goal.invariant-loop-i
invariant-loop-i l =
    Walking (length l.self.table.now) (fold (with_holder l.self.table.now) l.set) (held_in l.self.table.now l.number)
    (places_left l.i-iterator.table.now l.i-iterator.number l.i-iterator.at)
