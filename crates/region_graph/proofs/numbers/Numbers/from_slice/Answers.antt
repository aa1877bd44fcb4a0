use Rattle.std.proofs.Common.{refl}
use Rattle.region_graph.proofs.Storing.{filled_numbers, filled_put}
use Rattle.region_graph.proofs.numbers.Numbers.from_slice.Goals as goal

pub returns : goal.returns
returns c = rw c.copy_from_slice.ensures.after (filled_numbers (filled_put refl c.requires))
