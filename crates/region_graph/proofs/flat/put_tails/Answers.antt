use mathlib.Core.Path.{refl}
use Rattle.region_graph.proofs.Arrays.{making_next}
use Rattle.region_graph.proofs.flat.put_tails.Goals as goal

pub loop-i-preserved : goal.loop-i-preserved
loop-i-preserved c = making_next c.loop-i.invariant 0 c.loop-i-test.true refl
