use Rattle.std.proofs.Common.{refl, arith}
use Rattle.region_graph.specs.Record.{packages_of}
use Rattle.region_graph.proofs.Storing.{numbers_column}
use Rattle.region_graph.proofs.packages.Packages.as_list.Goals as goal

pub shared_ref_as_front-result : goal.shared_ref_as_front-result
shared_ref_as_front-result c = let h = numbers_column c.args.self.now c.requires in omega (arith, h.counted, h.room)

pub returns : goal.returns
unfolding packages_of
returns c = refl
