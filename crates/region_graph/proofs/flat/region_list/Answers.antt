use mathlib.Core.Path.{sym, ◌∙◌}
use Rattle.region_graph.proofs.FlatLoops.{regions_none, regions_next, regions_end}
use Rattle.region_graph.proofs.flat.region_list.Goals as goal

pub loop-region-init : goal.loop-region-init
loop-region-init c = regions_none c.args.list.now

pub loop-region-preserved : goal.loop-region-preserved
loop-region-preserved c =
    rw c.singleton-set.ensures
    (regions_next c.args.list.now c.loop-region.invariant c.loop-region-test.true (sym c.if-not-is_region.false ∙ c.is_region.ensures))

pub returns : goal.returns
returns c =
    rw c.then_some.ensures (regions_end c.args.list.now c.loop-region.invariant c.loop-region-test.false c.ascending.ensures)
