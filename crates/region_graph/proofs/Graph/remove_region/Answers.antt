use mathlib.Core.Path.{◌≡◌, ◌∙◌}
use Rattle.std.proofs.Common.{rules, Err}
use Rattle.region_graph.specs.Calls.{Call, accepted}
use Rattle.region_graph.specs.Record.{meaning}
use Rattle.region_graph.proofs.Storing.{regions_stored, bundles_stored, connections_stored, set_remove, stored_graph, refused, accepts}
use Rattle.region_graph.proofs.Graph.remove_region.Goals as goal

pub returns-in_err-ask_region : goal.returns-in_err-ask_region
unfolding meaning
returns-in_err-ask_region c =
    let e : c.from_residual.result ≡ Err c.in_err-ask_region.field-0.0 = search rules in
    refused c.args.self.now (Call.remove_region c.args.region) c.requires c.in_err-ask_region.field-0.0 c.in_err-ask_region.ensures e

pub remove_in-requires : goal.remove_in-requires
remove_in-requires c = bundles_stored c.args.self.now c.requires

pub remove_touching-requires : goal.remove_touching-requires
remove_touching-requires c = connections_stored c.args.self.now c.requires

pub returns : goal.returns
unfolding meaning
returns c =
    let g = c.args.self.now in
    let r = c.args.region in
    accepts g (Call.remove_region r) c.requires tt c.in_ok-ask_region.ensures
    (stored_graph (accepted (meaning g) (Call.remove_region r))
    (c.difference-self.ensures ∙ rw c.singleton.ensures (set_remove (meaning g).regions r (regions_stored g c.requires)))
    c.remove_in.ensures c.remove_touching.ensures)
