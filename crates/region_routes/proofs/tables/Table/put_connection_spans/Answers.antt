use native.Mathlib.Omega.{arith}
use Rattle.region_graph.specs.Record.{meaning, no_connection}
use Rattle.region_graph.proofs.Storing.{package_part_stored}
use Rattle.region_routes.specs.Tables.{passage_spans}
use Rattle.region_routes.proofs.TableLoops.{gathering_next, gathering_end}
use Rattle.region_routes.proofs.TableLaws.{connections_from, connections_asked}
use Rattle.region_routes.proofs.PackageTables.{spans_few}
use Rattle.region_routes.proofs.tables.Table.put_connection_spans.Goals as goal

pub put_spans-requires-clause-stored : goal.put_spans-requires-clause-stored
put_spans-requires-clause-stored c =
    let m = meaning c.args.graph.now in
    let h = c.requires.valid.good in
    package_part_stored _ (connections_asked m h passage_spans (connections_from m h passage_spans (spans_few h) c.connections-c-items.ensures) c.loop-c.invariant _ c.loop-c-test.true).0

pub put_spans-requires-clause-room : goal.put_spans-requires-clause-room
put_spans-requires-clause-room c =
    let m = meaning c.args.graph.now in
    let h = c.requires.valid.good in
    (connections_asked m h passage_spans (connections_from m h passage_spans (spans_few h) c.connections-c-items.ensures) c.loop-c.invariant _ c.loop-c-test.true).1.1

pub loop-c-preserved : goal.loop-c-preserved
loop-c-preserved c =
    let m = meaning c.args.graph.now in
    let h = c.requires.valid.good in
    gathering_next (connections_from m h passage_spans (spans_few h) c.connections-c-items.ensures) c.loop-c.invariant _ no_connection c.loop-c-test.true c.put_spans.ensures

pub returns : goal.returns
returns c =
    let m = meaning c.args.graph.now in
    let h = c.requires.valid.good in
    gathering_end (connections_from m h passage_spans (spans_few h) c.connections-c-items.ensures) c.loop-c.invariant (omega arith)
