use mathlib.Core.Path.{◌≡◌, refl, sym}
use mathlib.Core.Bool.{false}
use native.Mathlib.Omega.{arith}
use borrow.Author.Tests.{eq-eqb, ne_eqb}
use lib.ListN.{get_or}
use Rattle.region_graph.specs.Model.{Package}
use Rattle.region_graph.specs.Items.{is_package}
use Rattle.region_graph.specs.Handed.{package_list}
use Rattle.region_graph.proofs.Lists.{and_yes, and_left, and_right, exists_here, exists_later, exists_end}
use Rattle.region_graph.proofs.Columns.{no_package, packages_within, packages_at}
use Rattle.region_graph.proofs.packages.PackageList.has.Goals as goal
use Rattle.region_graph.proofs.packages.PackageList.has.Goals.{else-self-i-via-then-self-i+else-self-i-2, else-self-i-via-else-self-i}

pub loop-i-init : goal.loop-i-init
loop-i-init c = let s = c.args.self in (packages_within s.numbers.now s.versions.now c.count-i-end.ensures, refl)

pub returns-then-self-i-2 : goal.returns-then-self-i-2
returns-then-self-i-2 c =
    let l = c.loop-i in
    let a = c.args in
    exists_here (is_package a.number a.version) (package_list a.self) l.i no_package (omega arith) l.invariant.1
    (rw (packages_at a.self.numbers.now a.self.versions.now l.i (omega arith))
    (and_yes (eq-eqb _ _ (sym c.if-self-i.true)) (eq-eqb _ _ (sym c.if-self-i-2.true))))

pub loop-i-preserved : goal.loop-i-preserved
loop-i-preserved c =
    let l = c.loop-i in
    let a = c.args in
    let p : Package = record { number = get_or a.self.numbers.now l.i 0; version = get_or a.self.versions.now l.i 0 } in (
      l.invariant.0,
      exists_later (is_package a.number a.version) (package_list a.self) l.i no_package (omega arith) l.invariant.1
          (rw (packages_at a.self.numbers.now a.self.versions.now l.i (omega arith))
          (elim c.else-self-i.branch as (λ w. is_package a.number a.version p ≡ false) [
            | else-self-i-via-then-self-i+else-self-i-2 w ↦ and_right (eq-eqb _ _ (sym w.if-self-i.true)) (ne_eqb _ _ (λ e. w.if-self-i-2.false (sym e)))
            | else-self-i-via-else-self-i w ↦ and_left _ (ne_eqb _ _ (λ e. w.if-self-i.false (sym e)))
          ])),
    )

pub returns : goal.returns
returns c =
    let a = c.args in
    exists_end (is_package a.number a.version) (package_list a.self) c.loop-i.i c.loop-i.invariant.1 (omega arith)
