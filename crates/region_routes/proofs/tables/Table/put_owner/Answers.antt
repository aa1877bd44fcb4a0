use mathlib.Core.Path.{ap, ◌∙◌}
use mathlib.Core.List.{List, ◌++◌}
use Prim.Native.Nat.{ℕ}
use native.Mathlib.Omega.{arith}
use lib.ListN.{length, length-map, take}
use Rattle.region_graph.proofs.Storing.{packages_stored, versions_column}
use Rattle.region_routes.specs.Tables.{packed}
use Rattle.region_routes.proofs.PackageTables.{owner_column}
use Rattle.region_routes.proofs.tables.Table.put_owner.Goals as goal

pub shared_ref_as_front-put_places : goal.shared_ref_as_front-put_places
shared_ref_as_front-put_places c =
    let f = versions_column c.args.b.now.packages (packages_stored c.args.b.now c.requires.stored) in
    omega (arith, f.counted, f.room)

pub put_places-requires : goal.put_places-requires
put_places-requires c = omega (
  arith,
  ap length (owner_column c.args.b.now c.requires.stored),
  c.requires.room,
  length-map (take c.args.b.now.packages.count c.args.b.now.packages.versions) (λ v. packed c.args.b.now.location v),
)

pub returns : goal.returns
returns c = c.put_places.ensures ∙ ap (λ (xs : List ℕ). c.args.self.now ++ xs) (owner_column c.args.b.now c.requires.stored)
