use native.Mathlib.Omega.{arith}
use Rattle.region_graph.specs.Record.{meaning, no_connection}
use Rattle.region_routes.specs.Hooks.{kind_number}
use Rattle.region_routes.specs.Tables.{passage}
use Rattle.region_routes.proofs.TableLoops.{gathering_next, gathering_end}
use Rattle.region_routes.proofs.TableLaws.{connections_from, connections_asked, passages_few}
use Rattle.region_routes.proofs.tables.Table.put_passages.Goals as goal

pub put_passage-requires-clause-stored : goal.put_passage-requires-clause-stored
put_passage-requires-clause-stored c =
    let m = meaning c.args.graph.now in
    let h = c.requires.valid.good in
    (connections_asked m h (passage (kind_number c.args.kind)) (connections_from m h (passage (kind_number c.args.kind)) (passages_few m h (kind_number c.args.kind)) c.connections-c-items.ensures) c.loop-c.invariant _ c.loop-c-test.true).0

pub put_passage-requires-clause-inside : goal.put_passage-requires-clause-inside
put_passage-requires-clause-inside c =
    let m = meaning c.args.graph.now in
    let h = c.requires.valid.good in
    (connections_asked m h (passage (kind_number c.args.kind)) (connections_from m h (passage (kind_number c.args.kind)) (passages_few m h (kind_number c.args.kind)) c.connections-c-items.ensures) c.loop-c.invariant _ c.loop-c-test.true).1.0

pub put_passage-requires-clause-room : goal.put_passage-requires-clause-room
put_passage-requires-clause-room c =
    let m = meaning c.args.graph.now in
    let h = c.requires.valid.good in
    (connections_asked m h (passage (kind_number c.args.kind)) (connections_from m h (passage (kind_number c.args.kind)) (passages_few m h (kind_number c.args.kind)) c.connections-c-items.ensures) c.loop-c.invariant _ c.loop-c-test.true).1.1

pub loop-c-preserved : goal.loop-c-preserved
loop-c-preserved c =
    let m = meaning c.args.graph.now in
    let h = c.requires.valid.good in
    gathering_next (connections_from m h (passage (kind_number c.args.kind)) (passages_few m h (kind_number c.args.kind)) c.connections-c-items.ensures) c.loop-c.invariant _ no_connection c.loop-c-test.true c.put_passage.ensures

pub returns : goal.returns
returns c =
    let m = meaning c.args.graph.now in
    let h = c.requires.valid.good in
    gathering_end (connections_from m h (passage (kind_number c.args.kind)) (passages_few m h (kind_number c.args.kind)) c.connections-c-items.ensures) c.loop-c.invariant (omega arith)
