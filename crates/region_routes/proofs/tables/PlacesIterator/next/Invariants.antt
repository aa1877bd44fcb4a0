use Rattle.std.proofs.Common.{length, ◌-◌, ◌≡◌}
use Rattle.region_routes.specs.Chains.{places_left}
use Rattle.region_routes.proofs.tables.PlacesIterator.next.Given as goal

-- what is left is what was left at first
abbrev pub invariant-loop-self : goal.invariant-loop-self
invariant-loop-self l =
    places_left l.self.table.now l.self.number l.self.at ≡ places_left l.initial.self.table.now l.initial.self.number l.initial.self.at

abbrev pub decreases-loop-self : goal.decreases-loop-self
decreases-loop-self l = length l.self.table.now - l.self.at
