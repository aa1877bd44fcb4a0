use Rattle.std.proofs.Common.{refl, arith}
use Rattle.region_graph.specs.Record.{provided_of}
use Rattle.region_graph.proofs.Storing.{provided_filled}
use Rattle.region_graph.proofs.numbers.Provided.as_slice.Goals as goal

pub shared_ref_as_front-result : goal.shared_ref_as_front-result
shared_ref_as_front-result c = let h = provided_filled c.args.self.now c.requires in omega (arith, h.counted, h.room)

pub returns : goal.returns
unfolding provided_of
returns c = refl
