use native.Mathlib.Omega.{arith}
use Rattle.std.proofs.lemmas.Grind.{common_steps}
use Rattle.region_archive.proofs.Placed.{bundles_held, bundles_fit, connections_held, connections_fit}
use Rattle.region_archive.proofs.PlainLaws.{bundles_plain, connections_plain}
use Rattle.region_archive.proofs.plain.unversioned.Goals as goal

pub plain_bundles-requires : goal.plain_bundles-requires
plain_bundles-requires c = bundles_fit c.args.graph.now c.requires c.bundles.ensures

pub plain_connections-requires : goal.plain_connections-requires
plain_connections-requires c = connections_fit c.args.graph.now c.requires c.connections.ensures

pub returns-then-plain_bundles : goal.returns-then-plain_bundles
returns-then-plain_bundles c =
    let b = bundles_plain _ (bundles_held c.args.graph.now c.requires c.bundles.ensures) in
    let d = connections_plain _ (connections_held c.args.graph.now c.requires c.connections.ensures) in
    grind (arith, common_steps, b, d)

pub returns-else-plain_bundles : goal.returns-else-plain_bundles
returns-else-plain_bundles c =
    let b = bundles_plain _ (bundles_held c.args.graph.now c.requires c.bundles.ensures) in
    grind (arith, common_steps, b)
