use native.Mathlib.Omega.{arith}
use Rattle.region_graph.specs.Record.{meaning, no_bundle}
use Rattle.region_routes.specs.Tables.{owner}
use Rattle.region_routes.proofs.TableLoops.{gathering_next, gathering_end}
use Rattle.region_routes.proofs.TableLaws.{bundles_from, bundles_asked}
use Rattle.region_routes.proofs.PackageTables.{owners_few}
use Rattle.region_routes.proofs.tables.Table.put_owners.Goals as goal

pub put_owner-requires-clause-stored : goal.put_owner-requires-clause-stored
put_owner-requires-clause-stored c =
    let m = meaning c.args.graph.now in
    let h = c.requires.valid.good in
    (bundles_asked m h owner (bundles_from m h owner (owners_few h) c.bundles-b-items.ensures) c.loop-b.invariant _ c.loop-b-test.true).0

pub put_owner-requires-clause-room : goal.put_owner-requires-clause-room
put_owner-requires-clause-room c =
    let m = meaning c.args.graph.now in
    let h = c.requires.valid.good in
    (bundles_asked m h owner (bundles_from m h owner (owners_few h) c.bundles-b-items.ensures) c.loop-b.invariant _ c.loop-b-test.true).1

pub loop-b-preserved : goal.loop-b-preserved
loop-b-preserved c =
    let m = meaning c.args.graph.now in
    let h = c.requires.valid.good in
    gathering_next (bundles_from m h owner (owners_few h) c.bundles-b-items.ensures) c.loop-b.invariant _ no_bundle c.loop-b-test.true c.put_owner.ensures

pub returns : goal.returns
returns c =
    let m = meaning c.args.graph.now in
    let h = c.requires.valid.good in
    gathering_end (bundles_from m h owner (owners_few h) c.bundles-b-items.ensures) c.loop-b.invariant (omega arith)
