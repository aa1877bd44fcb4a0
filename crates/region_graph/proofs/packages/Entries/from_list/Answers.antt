use native.Mathlib.Omega.{arith}
use Rattle.region_graph.specs.Size.{most_listed}
use Rattle.region_graph.proofs.Columns.{entries_taken, entries_put, alike, copied_in}
use Rattle.region_graph.proofs.packages.Entries.from_list.Goals as goal

pub slice_bounds-copy_from_slice-end-2 : goal.slice_bounds-copy_from_slice-end-2
slice_bounds-copy_from_slice-end-2 c = let a = c.args.list in (entries_taken a.numbers.now a.lowest.now a.highest.now c.count-count.ensures).0

pub copy_from_slice-requires : goal.copy_from_slice-requires
copy_from_slice-requires c =
    let a = c.args.list in
    alike most_listed c.count-count.result a.numbers.now (entries_taken a.numbers.now a.lowest.now a.highest.now c.count-count.ensures).0 (omega (arith, c.count-count.ensures, c.requires))

pub slice_bounds-copy_from_slice-end-4 : goal.slice_bounds-copy_from_slice-end-4
slice_bounds-copy_from_slice-end-4 c = let a = c.args.list in (entries_taken a.numbers.now a.lowest.now a.highest.now c.count-count.ensures).1

pub copy_from_slice-requires-2 : goal.copy_from_slice-requires-2
copy_from_slice-requires-2 c =
    let a = c.args.list in
    alike most_listed c.count-count.result a.lowest.now (entries_taken a.numbers.now a.lowest.now a.highest.now c.count-count.ensures).1 (omega (arith, c.count-count.ensures, c.requires))

pub slice_bounds-copy_from_slice-end-6 : goal.slice_bounds-copy_from_slice-end-6
slice_bounds-copy_from_slice-end-6 c = let a = c.args.list in (entries_taken a.numbers.now a.lowest.now a.highest.now c.count-count.ensures).2

pub copy_from_slice-requires-3 : goal.copy_from_slice-requires-3
copy_from_slice-requires-3 c =
    let a = c.args.list in
    alike most_listed c.count-count.result a.highest.now (entries_taken a.numbers.now a.lowest.now a.highest.now c.count-count.ensures).2 (omega (arith, c.count-count.ensures, c.requires))

pub returns : goal.returns
returns c =
    let a = c.args.list in
    let t = entries_taken a.numbers.now a.lowest.now a.highest.now c.count-count.ensures in
    entries_put a.numbers.now a.lowest.now a.highest.now c.count-count.ensures c.requires
    (copied_in most_listed c.count-count.result a.numbers.now t.0 c.copy_from_slice.ensures.after)
    (copied_in most_listed c.count-count.result a.lowest.now t.1 c.copy_from_slice-2.ensures.after)
    (copied_in most_listed c.count-count.result a.highest.now t.2 c.copy_from_slice-3.ensures.after)
