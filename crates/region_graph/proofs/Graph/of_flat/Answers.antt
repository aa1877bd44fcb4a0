use Rattle.std.proofs.Common.{rules}
use Rattle.region_graph.specs.Sets.{members}
use Rattle.region_graph.proofs.FlatLaws.{bundle_laws, connection_laws, members_small}
use Rattle.region_graph.proofs.FlatModels.{bundles_missing, connections_missing, graph_made}
use Rattle.region_graph.proofs.Graph.of_flat.Goals as goal

pub put_rows-requires : goal.put_rows-requires
put_rows-requires c = bundle_laws (members c.in_ok-set.set)

pub put_rows-requires-2 : goal.put_rows-requires-2
put_rows-requires-2 c = connection_laws (members c.in_ok-set.set) (members_small c.in_ok-set.set)

pub returns-in_err-installed : goal.returns-in_err-installed
returns-in_err-installed c =
    let s = rw c.in_ok-set.ensures.ok_part at c.region_list.ensures in
    let p = rw c.in_err-installed.ensures.ok_part at c.put_rows.ensures in
    bundles_missing _ _ c.args.connections.now s c.empty-graph.ensures p (search rules)

pub returns-in_err-connected : goal.returns-in_err-connected
returns-in_err-connected c =
    let s = rw c.in_ok-set.ensures.ok_part at c.region_list.ensures in
    let p = rw c.in_err-connected.ensures.ok_part at c.put_rows-2.ensures in
    connections_missing _ c.args.bundles.now _ s c.empty-graph.ensures p (search rules)

pub returns : goal.returns
returns c =
    graph_made c.args.regions.now c.args.bundles.now c.args.connections.now (rw c.in_ok-set.ensures.ok_part at c.region_list.ensures)
    c.empty-graph.ensures (rw c.in_ok-installed.ensures.ok_part at c.put_rows.ensures) (rw c.in_ok-connected.ensures.ok_part at c.put_rows-2.ensures)
