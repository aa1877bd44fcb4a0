use native.Mathlib.Omega.{arith}
use Rattle.region_graph.specs.Size.{most_provided}
use Rattle.region_graph.proofs.Columns.{packages_taken, packages_put, alike, copied_in}
use Rattle.region_graph.proofs.packages.Packages.from_list.Goals as goal

pub slice_bounds-copy_from_slice-end-2 : goal.slice_bounds-copy_from_slice-end-2
slice_bounds-copy_from_slice-end-2 c = let a = c.args.list in (packages_taken a.numbers.now a.versions.now c.count-count.ensures).0

pub copy_from_slice-requires : goal.copy_from_slice-requires
copy_from_slice-requires c =
    let a = c.args.list in
    alike most_provided c.count-count.result a.numbers.now (packages_taken a.numbers.now a.versions.now c.count-count.ensures).0 (omega (arith, c.count-count.ensures, c.requires))

pub slice_bounds-copy_from_slice-end-4 : goal.slice_bounds-copy_from_slice-end-4
slice_bounds-copy_from_slice-end-4 c = let a = c.args.list in (packages_taken a.numbers.now a.versions.now c.count-count.ensures).1

pub copy_from_slice-requires-2 : goal.copy_from_slice-requires-2
copy_from_slice-requires-2 c =
    let a = c.args.list in
    alike most_provided c.count-count.result a.versions.now (packages_taken a.numbers.now a.versions.now c.count-count.ensures).1 (omega (arith, c.count-count.ensures, c.requires))

pub returns : goal.returns
returns c =
    let a = c.args.list in
    let t = packages_taken a.numbers.now a.versions.now c.count-count.ensures in
    packages_put a.numbers.now a.versions.now c.count-count.ensures c.requires
    (copied_in most_provided c.count-count.result a.numbers.now t.0 c.copy_from_slice.ensures.after)
    (copied_in most_provided c.count-count.result a.versions.now t.1 c.copy_from_slice-2.ensures.after)
