use lib.ListN.{length, get_or}
use Rattle.std.specs.List.{fold}
use Rattle.region_routes.specs.Tables.{span_has}
use Rattle.region_routes.specs.Chains.{places_left}
use Rattle.region_routes.proofs.Chaining.{Walking}
use Rattle.region_routes.proofs.Stepping.{stepped}
use Rattle.region_routes.proofs.tables.Chains.predecessors_between.Given as goal

abbrev pub invariant-loop-i : goal.invariant-loop-i
invariant-loop-i l =
    let es = l.self.table.now in
    let add = stepped es (λ i. span_has l.version (get_or l.spans i 0)) in
    Walking (length es) (fold add l.sets) (fold add l.initial.sets (places_left es l.number 0)) (places_left l.i-iterator.table.now l.i-iterator.number l.i-iterator.at)
