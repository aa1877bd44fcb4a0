use mathlib.Core.Bool.{true}
use lib.ListN.{length}
use Rattle.std.specs.List.{fold}
use Rattle.region_routes.specs.Chains.{places_left}
use Rattle.region_routes.proofs.Chaining.{Walking}
use Rattle.region_routes.proofs.Stepping.{stepped}
use Rattle.region_routes.proofs.tables.Chains.predecessors.Given as goal

abbrev pub invariant-loop-i : goal.invariant-loop-i
invariant-loop-i l =
    let es = l.self.table.now in
    Walking (length es) (fold (stepped es (λ i. true)) l.sets) (fold (stepped es (λ i. true)) l.initial.sets (places_left es l.number 0))
    (places_left l.i-iterator.table.now l.i-iterator.number l.i-iterator.at)
