use mathlib.Core.Path.{◌∙◌}
use Rattle.region_graph.proofs.Columns.{entries_taken, entries_ascend}
use Rattle.region_graph.proofs.packages.EntryList.ascends.Goals as goal

pub slice_bounds-ascending-end : goal.slice_bounds-ascending-end
slice_bounds-ascending-end c = let s = c.args.self in (entries_taken s.numbers.now s.lowest.now s.highest.now c.count.ensures).0

pub returns : goal.returns
returns c = let s = c.args.self in c.ascending.ensures ∙ entries_ascend s.numbers.now s.lowest.now s.highest.now c.count.ensures
