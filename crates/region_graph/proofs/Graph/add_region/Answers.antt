use mathlib.Core.Path.{◌≡◌}
use Rattle.std.proofs.Common.{rules, Err}
use Rattle.region_graph.specs.Calls.{Call, accepted}
use Rattle.region_graph.specs.Record.{meaning}
use Rattle.region_graph.proofs.Storing.{regions_stored, bundles_stored, connections_stored, set_insert, stored_graph, refused, accepts}
use Rattle.region_graph.proofs.Graph.add_region.Goals as goal

pub returns-in_err-ask_new_region : goal.returns-in_err-ask_new_region
unfolding meaning
returns-in_err-ask_new_region c =
    let e : c.from_residual.result ≡ Err c.in_err-ask_new_region.field-0.0 = search rules in
    refused c.args.self.now (Call.add_region c.args.region) c.requires c.in_err-ask_new_region.field-0.0 c.in_err-ask_new_region.ensures e

pub returns : goal.returns
unfolding meaning
returns c =
    let g = c.args.self.now in
    let r = c.args.region in
    accepts g (Call.add_region r) c.requires tt c.in_ok-ask_new_region.ensures
    (stored_graph (accepted (meaning g) (Call.add_region r)) (rw c.singleton.ensures (set_insert (meaning g).regions r (regions_stored g c.requires)))
    (bundles_stored g c.requires).stored (connections_stored g c.requires).stored)
