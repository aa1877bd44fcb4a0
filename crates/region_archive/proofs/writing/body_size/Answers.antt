use mathlib.Core.Path.{ap}
use native.Mathlib.Omega.{arith}
use lib.ListN.{length}
use Rattle.region_graph.specs.Record.{meaning}
use Rattle.region_archive.proofs.Images.{body_size}
use Rattle.region_archive.proofs.Members.{set_members}
use Rattle.region_archive.proofs.Placed.{bundles_few, bundles_bytes, bundles_fit, connections_few, connections_bytes, connections_fit}
use Rattle.region_archive.proofs.writing.body_size.Goals as goal

pub records_size-requires : goal.records_size-requires
records_size-requires c =
    let g = c.args.graph.now in
    let p = c.bundles.ensures in
    record { each_fits = bundles_fit g c.requires p; few = bundles_few g c.requires p }

pub records_size-requires-2 : goal.records_size-requires-2
records_size-requires-2 c =
    let g = c.args.graph.now in
    let p = c.connections.ensures in
    record { each_fits = connections_fit g c.requires p; few = connections_few g c.requires p }

pub returns : goal.returns
returns c =
    let g = c.args.graph.now in
    let bundles = ap length (bundles_bytes g c.requires c.bundles.ensures c.args.version) in
    let connections = ap length (connections_bytes g c.requires c.connections.ensures c.args.version) in
    let regions = ap length (set_members g c.requires c.region_set.ensures) in (
      omega (
        arith,
        body_size c.args.version (meaning g) c.requires.good,
        c.region_count.ensures.0,
        regions,
        c.records_size.ensures.0,
        bundles,
        c.records_size-2.ensures.0,
        connections,
      ),
      omega (arith, c.region_count.ensures.1, c.records_size.ensures.1, c.records_size-2.ensures.1),
    )
