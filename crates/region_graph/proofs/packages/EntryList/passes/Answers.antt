use mathlib.Core.Path.{◌≡◌, refl, sym, ◌∙◌}
use mathlib.Core.Bool.{false}
use native.Mathlib.Omega.{arith}
use borrow.Author.Tests.{eq-eqb, ne_eqb}
use lib.ListN.{get_or}
use Rattle.region_graph.specs.Model.{PackageEntry}
use Rattle.region_graph.specs.Items.{entry_passes}
use Rattle.region_graph.specs.Handed.{entry_list}
use Rattle.region_graph.proofs.Lists.{and_yes, and_left, and_right, exists_here, exists_later, exists_end}
use Rattle.region_graph.proofs.Columns.{no_range, entries_within, entries_at}
use Rattle.region_graph.proofs.packages.EntryList.passes.Goals as goal
use Rattle.region_graph.proofs.packages.EntryList.passes.Goals.{else-self-i-via-then-self-i+else-lies_between, else-self-i-via-else-self-i}

pub loop-i-init : goal.loop-i-init
loop-i-init c = let s = c.args.self in (entries_within s.numbers.now s.lowest.now s.highest.now c.count-i-end.ensures, refl)

pub returns-then-lies_between : goal.returns-then-lies_between
returns-then-lies_between c =
    let l = c.loop-i in
    let a = c.args in
    exists_here (entry_passes a.number a.version) (entry_list a.self) l.i no_range (omega arith) l.invariant.1
    (rw (entries_at a.self.numbers.now a.self.lowest.now a.self.highest.now l.i (omega arith))
    (and_yes (eq-eqb _ _ (sym c.if-self-i.true)) (sym c.lies_between.ensures ∙ c.if-lies_between.true)))

pub loop-i-preserved : goal.loop-i-preserved
loop-i-preserved c =
    let l = c.loop-i in
    let a = c.args in
    let e : PackageEntry =
    record { number = get_or a.self.numbers.now l.i 0; lowest = get_or a.self.lowest.now l.i 0; highest = get_or a.self.highest.now l.i 0 } in (
      l.invariant.0,
      exists_later (entry_passes a.number a.version) (entry_list a.self) l.i no_range (omega arith) l.invariant.1
          (rw (entries_at a.self.numbers.now a.self.lowest.now a.self.highest.now l.i (omega arith))
          (elim c.else-self-i.branch as (λ w. entry_passes a.number a.version e ≡ false) [
            | else-self-i-via-then-self-i+else-lies_between w ↦ and_right (eq-eqb _ _ (sym w.if-self-i.true)) (sym w.lies_between.ensures ∙ w.if-lies_between.false)
            | else-self-i-via-else-self-i w ↦ and_left _ (ne_eqb _ _ (λ f. w.if-self-i.false (sym f)))
          ])),
    )

pub returns : goal.returns
returns c =
    let a = c.args in
    exists_end (entry_passes a.number a.version) (entry_list a.self) c.loop-i.i c.loop-i.invariant.1 (omega arith)
