use Rattle.std.proofs.Common.{◌≡◌, ◌-◌, refl, ◌∙◌, not, get_or, rules, arith}
use Rattle.region_graph.specs.Model.{package_before}
use Rattle.region_graph.specs.Handed.{package_list}
use Rattle.region_graph.proofs.Ascending.{steps_end, steps_later, steps_stop}
use Rattle.region_graph.proofs.Columns.{no_package, packages_within, packages_step}
use Rattle.region_graph.proofs.packages.PackageList.ascends.Goals as goal

pub loop-i-init : goal.loop-i-init
loop-i-init c = let s = c.args.self in let h = packages_within s.numbers.now s.versions.now c.count-i-end.ensures in (h.0, h.1, refl)

pub returns-then-le : goal.returns-then-le
returns-then-le c =
    let l = c.loop-i in
    let s = c.args.self in
    let pos = l.auto.i in
    let e : package_before (record { number = get_or s.numbers.now (l.i - 1) 0; version = get_or s.versions.now (l.i - 1) 0 })
    (record { number = get_or s.numbers.now l.i 0; version = get_or s.versions.now l.i 0 }) ≡ not c.le.result = search rules in
    steps_stop package_before (package_list s) l.i pos no_package (omega arith) (packages_step s.numbers.now s.versions.now l.i pos (omega arith) ∙ e ∙ rw c.if-le.true) l.invariant.2

pub loop-i-preserved : goal.loop-i-preserved
loop-i-preserved c =
    let l = c.loop-i in
    let s = c.args.self in
    let pos = l.auto.i in
    let e : package_before (record { number = get_or s.numbers.now (l.i - 1) 0; version = get_or s.versions.now (l.i - 1) 0 })
    (record { number = get_or s.numbers.now l.i 0; version = get_or s.versions.now l.i 0 }) ≡ not c.le.result = search rules in (
      l.invariant.0,
      l.invariant.1,
      steps_later package_before (package_list s) l.i pos no_package (omega arith) (packages_step s.numbers.now s.versions.now l.i pos (omega arith) ∙ e ∙ rw c.if-le.false) l.invariant.2,
    )

pub returns : goal.returns
returns c =
    let l = c.loop-i in
    steps_end package_before (package_list c.args.self) l.i l.auto.i (omega arith) l.invariant.2
