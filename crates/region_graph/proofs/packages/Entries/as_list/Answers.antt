use Rattle.std.proofs.Common.{refl, arith}
use Rattle.region_graph.specs.Record.{entries_of}
use Rattle.region_graph.proofs.Storing.{entry_numbers_column}
use Rattle.region_graph.proofs.packages.Entries.as_list.Goals as goal

pub shared_ref_as_front-result : goal.shared_ref_as_front-result
shared_ref_as_front-result c = let h = entry_numbers_column c.args.self.now c.requires in omega (arith, h.counted, h.room)

pub returns : goal.returns
unfolding entries_of
returns c = refl
