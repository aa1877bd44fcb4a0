use native.Mathlib.Omega.{arith}
use mathlib.Core.Path.{refl}
use Rattle.region_graph.specs.Record.{provided_of}
use Rattle.region_graph.proofs.Arrays.{filled_taken}
use Rattle.region_graph.proofs.Storing.{packages_stored, services_stored, numbers_column, provided_filled}
use Rattle.region_routes.proofs.tables.provided.Goals as goal

pub shared_ref_as_front-result : goal.shared_ref_as_front-result
shared_ref_as_front-result c =
    let f = numbers_column c.args.b.now.packages (packages_stored c.args.b.now c.requires) in
    omega (arith, f.counted, f.room)

pub shared_ref_as_front-result-in-Service : goal.shared_ref_as_front-result-in-Service
shared_ref_as_front-result-in-Service c =
    let f = provided_filled c.args.b.now.services (services_stored c.args.b.now c.requires) in
    omega (arith, f.counted, f.room)

pub returns-in-Package : goal.returns-in-Package
returns-in-Package c = rw c.in-Package.is (filled_taken (numbers_column c.args.b.now.packages (packages_stored c.args.b.now c.requires)))

pub returns-in-Service : goal.returns-in-Service
unfolding provided_of
returns-in-Service c = rw c.in-Service.is refl
