use native.Mathlib.Omega.{arith}
use lib.ListN.{length-map, take}
use Rattle.region_graph.specs.Record.{numbers_of, part_in, package_part_in}
use Rattle.region_graph.proofs.Arrays.{filled_within}
use Rattle.region_graph.proofs.Storing.{named_stored, package_part_stored, service_part_stored, numbers_filled}
use Rattle.region_graph.proofs.Storing.{listed_stored, listed_entries_stored, entry_numbers_column}
use Rattle.region_routes.specs.Tables.{packed, ends, passed, listed_numbers}
use Rattle.region_routes.proofs.TableLoops.{entries_in}
use Rattle.region_routes.proofs.tables.Table.put_passage.Goals as goal

pub shared_ref_as_front-put : goal.shared_ref_as_front-put
shared_ref_as_front-put c =
    let f = numbers_filled c.args.c.now.bundles (named_stored c.args.c.now c.requires.stored) in
    omega (arith, f.counted, f.room)

pub put-requires : goal.put-requires
unfolding numbers_of
put-requires c =
    let b = c.args.c.now in
    let r = rw c.in-Bundle.is at c.requires.room in
    omega (arith, r, length-map (take b.bundles.count b.bundles.items) (λ n. packed n (ends b.source b.target)))

pub returns-in-Bundle : goal.returns-in-Bundle
unfolding numbers_of
returns-in-Bundle c = rw c.in-Bundle.is c.put.ensures

-- the numbers of a package part are those of its entries
pub put_part-requires-clause-counted : goal.put_part-requires-clause-counted
put_part-requires-clause-counted c =
    let h = package_part_stored c.args.c.now c.requires.stored in
    λ e. filled_within (entry_numbers_column c.args.c.now.packages (listed_entries_stored c.args.c.now.packages h e))

pub put_part-requires-clause-room : goal.put_part-requires-clause-room
put_part-requires-clause-room c =
    let b = c.args.c.now in
    let r = rw c.in-Package.is at c.requires.room in
    rw (entries_in b.packages (package_part_stored b c.requires.stored))
    (omega (arith, r, length-map (passed (listed_numbers (package_part_in b.packages))) (λ n. packed n (ends b.source b.target))))

pub returns-in-Package : goal.returns-in-Package
returns-in-Package c =
    rw c.in-Package.is (rw (entries_in c.args.c.now.packages (package_part_stored c.args.c.now c.requires.stored)) at c.put_part.ensures)

pub put_part-requires-in-Service-clause-counted : goal.put_part-requires-in-Service-clause-counted
put_part-requires-in-Service-clause-counted c =
    let p = c.args.c.now.services in
    λ e. filled_within (numbers_filled p (listed_stored p (service_part_stored c.args.c.now c.requires.stored) e))

pub put_part-requires-in-Service-clause-room : goal.put_part-requires-in-Service-clause-room
unfolding numbers_of
put_part-requires-in-Service-clause-room c =
    let b = c.args.c.now in
    let r = rw c.in-Service.is at c.requires.room in
    omega (arith, r, length-map (passed (part_in b.services)) (λ n. packed n (ends b.source b.target)))

pub returns-in-Service : goal.returns-in-Service
unfolding numbers_of
returns-in-Service c = rw c.in-Service.is c.put_part-in-Service.ensures
