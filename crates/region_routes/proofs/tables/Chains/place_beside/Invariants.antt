use lib.Dec.{eqb}
use lib.ListN.{length, get_or}
use Rattle.region_routes.specs.Tables.{place_beside}
use Rattle.region_routes.specs.Chains.{places_left}
use Rattle.region_routes.proofs.Chaining.{Walking}
use Rattle.region_routes.proofs.Lookups.{first_place}
use Rattle.region_routes.proofs.tables.Chains.place_beside.Given as goal

abbrev pub invariant-loop-i : goal.invariant-loop-i
invariant-loop-i l =
    let es = l.self.table.now in
    Walking (length es) (first_place es (λ i. eqb (get_or l.owned i 0) l.asked)) (place_beside es l.owned l.asked l.number)
    (places_left l.i-iterator.table.now l.i-iterator.number l.i-iterator.at)
