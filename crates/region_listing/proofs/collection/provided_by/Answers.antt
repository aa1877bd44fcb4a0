use mathlib.Core.Path.{refl}
use native.Mathlib.Omega.{arith}
use Rattle.region_graph.specs.Record.{packages_of, store_packages}
use Rattle.region_graph.proofs.Storing.{services_stored, provided_filled}
use Rattle.region_listing.proofs.Collecting.{cleared_stored}
use Rattle.region_listing.proofs.collection.provided_by.Goals as goal

pub returns-in-Bundle : goal.returns-in-Bundle
unfolding packages_of store_packages
returns-in-Bundle c = rw c.in-Bundle.is (record { stored = refl; good = omega arith }, refl)

pub returns-in-Service : goal.returns-in-Service
returns-in-Service c =
    let s = c in
    rw c.in-Service.is (cleared_stored (provided_filled s.args.b.now.services (services_stored s.args.b.now s.requires)))
