use Rattle.std.proofs.Common.{rules}
use Rattle.region_graph.proofs.FlatLaws.{heads_next}
use Rattle.region_graph.proofs.flat.put_heads.Goals as goal

pub loop-i-preserved : goal.loop-i-preserved
loop-i-preserved c = search (rules, heads_next _ _ c.loop-i.invariant c.loop-i-test.true)
