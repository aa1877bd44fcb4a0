use mathlib.Core.Path.{◌∙◌}
use native.Mathlib.Omega.{arith}
use Rattle.region_graph.specs.Items.{passes}
use Rattle.region_graph.proofs.Views.{led_none, connection_stored_at, target_region, leader_took, leader_left, sets_all}
use Rattle.region_graph.proofs.Graph.predecessors.Goals.{then-connection_passes, else-connection_passes}
use Rattle.region_graph.proofs.Graph.predecessors.Goals as goal

pub loop-c-init : goal.loop-c-init
loop-c-init c = led_none (λ c. c.source) (λ c. c.target) (λ x. passes c.args.item x.filter)

pub connection_passes-requires : goal.connection_passes-requires
connection_passes-requires c = connection_stored_at c.args.self.now c.requires c.connections-c-items.ensures c.loop-c.c-index _ (omega arith)

pub bounds-sets-c : goal.bounds-sets-c
bounds-sets-c c = target_region c.args.self.now c.requires c.connections-c-items.ensures c.loop-c.c-index _ (omega arith)

pub bounds-sets-c-then-connection_passes : goal.bounds-sets-c-then-connection_passes
bounds-sets-c-then-connection_passes c = target_region c.args.self.now c.requires c.connections-c-items.ensures c.loop-c.c-index _ (omega arith)

pub loop-c-preserved : goal.loop-c-preserved
loop-c-preserved c =
    let g = c.args.self.now in
    elim c.if-connection_passes.branch [
      | then-connection_passes w ↦
          w.sets-is
          ∙ leader_took g c.requires c.connections-c-items.ensures c.args.item (omega arith) c.loop-c.invariant _ c.connection_passes.ensures
          w.if-connection_passes.true w.singleton.ensures
      | else-connection_passes w ↦
          w.sets-is
          ∙ leader_left g c.requires c.connections-c-items.ensures c.args.item (omega arith) c.loop-c.invariant _ c.connection_passes.ensures
          w.if-connection_passes.false
    ]

pub returns : goal.returns
returns c = sets_all c.args.self.now c.requires c.connections-c-items.ensures c.args.item (omega arith) c.loop-c.invariant
