use mathlib.Core.Path.{◌≡◌, refl, sym}
use Rattle.std.proofs.Common.{rules, Err, drop}
use Rattle.region_graph.specs.Calls.{Call, accepted, questions, end_questions}
use Rattle.region_graph.specs.Record.{meaning}
use Rattle.region_graph.specs.declared.refusals.Refusal.TheVariants.{NotConnected}
use Rattle.region_graph.proofs.Legal.{first_step, second_step}
use Rattle.region_graph.proofs.Storing.{regions_stored, bundles_stored, connections_stored, stored_graph, refusal_numbered, refused, accepts}
use Rattle.region_graph.proofs.Graph.disconnect.Goals as goal

pub returns-in_err-ask_ends : goal.returns-in_err-ask_ends
unfolding meaning
returns-in_err-ask_ends c =
    let e : c.from_residual.result ≡ Err c.in_err-ask_ends.field-0.0 = search rules in
    refused c.args.self.now (Call.disconnect c.args.source c.args.target) c.requires c.in_err-ask_ends.field-0.0 (
    first_step (end_questions (meaning c.args.self.now).regions c.args.source c.args.target)
    (drop 3 (questions (meaning c.args.self.now) (Call.disconnect c.args.source c.args.target))) (refl, (refl, (refl, tt)))
    c.in_err-ask_ends.ensures (refusal_numbered c.in_err-ask_ends.field-0.0)
    ) e

pub returns-then-not-has_connection : goal.returns-then-not-has_connection
unfolding meaning
returns-then-not-has_connection c =
    let m = meaning c.args.self.now in
    let r = c.args.source in
    let s = c.args.target in
    refused c.args.self.now (Call.disconnect r s) c.requires NotConnected
    (second_step (end_questions m.regions r s) (drop 3 (questions m (Call.disconnect r s))) (refl, (refl, (refl, tt)))
    c.in_ok-ask_ends.ensures refl (rw (sym c.if-not-has_connection.ensures)))
    refl

pub remove_joining-requires : goal.remove_joining-requires
remove_joining-requires c = connections_stored c.args.self.now c.requires

pub returns : goal.returns
unfolding meaning
returns c =
    let g = c.args.self.now in
    let m = meaning g in
    let r = c.args.source in
    let s = c.args.target in
    accepts g (Call.disconnect r s) c.requires tt
    (second_step (end_questions m.regions r s) (drop 3 (questions m (Call.disconnect r s))) (refl, (refl, (refl, tt)))
    c.in_ok-ask_ends.ensures refl (rw (sym c.if-not-has_connection.ensures)))
    (stored_graph (accepted m (Call.disconnect r s)) (regions_stored g c.requires) (bundles_stored g c.requires).stored c.remove_joining.ensures)
