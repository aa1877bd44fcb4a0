use Rattle.std.proofs.Common.{refl, arith}
use Rattle.region_graph.specs.Record.{bundles_of}
use Rattle.region_graph.proofs.Arrays.{filled_taken}
use Rattle.region_graph.proofs.Storing.{bundles_filled, bundles_each_stored}
use Rattle.region_graph.proofs.bundles.Bundles.as_slice.Goals as goal

pub shared_ref_as_front-result : goal.shared_ref_as_front-result
shared_ref_as_front-result c = let h = bundles_filled c.args.self.now c.requires in omega (arith, h.counted, h.room)

pub returns-clause-places : goal.returns-clause-places
returns-clause-places c = filled_taken (bundles_filled c.args.self.now c.requires)

pub returns-clause-means : goal.returns-clause-means
unfolding bundles_of
returns-clause-means c = refl

pub returns-clause-each : goal.returns-clause-each
returns-clause-each c =
    rw (filled_taken (bundles_filled c.args.self.now c.requires)) (bundles_each_stored (bundles_of c.args.self.now) c.requires.good.each)
