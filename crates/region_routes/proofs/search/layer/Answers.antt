use Rattle.std.proofs.Common.{rules}
use Rattle.region_routes.proofs.SearchLoops.{taken, layer_start, layer_next, layer_end}
use Rattle.region_routes.proofs.search.layer.Goals as goal

pub loop-region-init : goal.loop-region-init
loop-region-init c = rw c.into_iter-region-iterator.ensures.into_iter_gives (layer_start (search rules))

pub loop-region-preserved : goal.loop-region-preserved
loop-region-preserved c =
    let s = c.in-Some.ensures.steps in
    layer_next c.requires.small (taken c.loop-region.invariant.word s.0 s.1 s.2) c.loop-region.invariant

pub returns : goal.returns
returns c = layer_end (search rules) c.difference.ensures (rw c.in-None.ensures.steps at c.loop-region.invariant)
