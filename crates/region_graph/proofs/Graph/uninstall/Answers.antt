use mathlib.Core.Path.{refl, sym}
use Rattle.region_graph.specs.Calls.{Call, accepted}
use Rattle.region_graph.specs.Record.{meaning}
use Rattle.region_graph.specs.declared.refusals.Refusal.TheVariants.{NotInstalled}
use Rattle.region_graph.proofs.Storing.{regions_stored, bundles_stored, connections_stored, stored_graph, refused, accepts}
use Rattle.region_graph.proofs.Graph.uninstall.Goals as goal

pub returns-then-not-has_bundle : goal.returns-then-not-has_bundle
returns-then-not-has_bundle c =
    refused c.args.self.now (Call.uninstall c.args.location) c.requires NotInstalled (rw (sym c.if-not-has_bundle.ensures)) refl

pub remove_at-requires : goal.remove_at-requires
remove_at-requires c = bundles_stored c.args.self.now c.requires

pub returns : goal.returns
unfolding meaning
returns c =
    let g = c.args.self.now in
    let l = c.args.location in
    accepts g (Call.uninstall l) c.requires tt (rw (sym c.if-not-has_bundle.ensures))
    (stored_graph (accepted (meaning g) (Call.uninstall l)) (regions_stored g c.requires) c.remove_at.ensures (connections_stored g c.requires).stored)
