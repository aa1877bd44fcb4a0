use mathlib.Core.Path.{◌∙◌}
use native.Mathlib.Omega.{arith}
use Rattle.region_graph.specs.Items.{provides}
use Rattle.region_graph.proofs.Views.{held_none, bundle_stored_at, holder_took, holder_left, holders_all}
use Rattle.region_graph.proofs.Graph.holders.Goals.{then-bundle_provides, else-bundle_provides}
use Rattle.region_graph.proofs.Graph.holders.Goals as goal

pub loop-b-init : goal.loop-b-init
loop-b-init c = held_none (λ b. b.region) (provides c.args.item)

pub bundle_provides-requires : goal.bundle_provides-requires
bundle_provides-requires c = bundle_stored_at c.args.self.now c.requires c.bundles-b-items.ensures c.loop-b.b-index _ (omega arith)

pub loop-b-preserved : goal.loop-b-preserved
loop-b-preserved c =
    let g = c.args.self.now in
    elim c.if-bundle_provides.branch [
      | then-bundle_provides w ↦
          w.set-is
          ∙ holder_took g c.requires c.args.item c.bundles-b-items.ensures (omega arith) c.loop-b.invariant _ c.bundle_provides.ensures
          w.if-bundle_provides.true w.singleton-set.ensures
      | else-bundle_provides w ↦
          w.set-is
          ∙ holder_left g c.requires c.args.item c.bundles-b-items.ensures (omega arith) c.loop-b.invariant _ c.bundle_provides.ensures
          w.if-bundle_provides.false
    ]

pub returns : goal.returns
returns c = holders_all c.args.self.now c.requires c.args.item c.bundles-b-items.ensures (omega arith) c.loop-b.invariant
