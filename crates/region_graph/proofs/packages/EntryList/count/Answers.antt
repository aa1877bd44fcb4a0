use native.Mathlib.Omega.{arith}
use Rattle.region_graph.proofs.Columns.{entries_length}
use Rattle.region_graph.proofs.packages.EntryList.count.Goals as goal

pub returns : goal.returns
returns c = let s = c.args.self in omega (arith, c.min.ensures, c.min-2.ensures, entries_length s.numbers.now s.lowest.now s.highest.now)
