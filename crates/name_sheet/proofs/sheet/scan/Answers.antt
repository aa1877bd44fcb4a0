use mathlib.Core.Path.{◌≡◌, ◌∙◌, ap, sym, subst}
use Prim.Native.Nat.{◌+◌, ◌*◌, ◌^◌}
use native.Mathlib.Omega.{arith}
use borrow.Author.Tests.{eq-eqb, ne_eqb}
use Rattle.std.specs.Prelude.{Err}
use Rattle.std.proofs.Common.{rules}
use Rattle.std.proofs.lemmas.Bool.{and_left, and_right}
use Rattle.region_graph.proofs.Lists.{and_yes}
use Rattle.region_graph.specs.declared.refusals.Refusal.TheVariants as Refusal
use Rattle.big_endian.proofs.Rows.{low_next}
use Rattle.name_sheet.specs.Promise.{Locates}
use Rattle.name_sheet.proofs.EntryLaws.{entry_elements}
use Rattle.name_sheet.proofs.Scanning.{part_or_none, noted_here, noted_other, scan_more, scan_end, scan_broken}
use Rattle.name_sheet.proofs.sheet.scan.Goals as goal
use Rattle.name_sheet.proofs.sheet.scan.Goals.{then-entry-kind+then-entry-number, else-entry-kind, else-entry-kind-via-then-entry-kind+else-entry-number, else-entry-kind-via-else-entry-kind}

-- no entry stands at the place
pub returns-in_err-entry : goal.returns-in_err-entry
returns-in_err-entry c =
    let e : c.from_residual.result ≡ Err Refusal.BrokenSheet = search (rules, c.in_err-entry.ensures.value, c.in_err-entry.ensures.ok_part) in
    let none = rw c.in_err-entry.ensures.ok_part at c.entry_at.ensures in
    subst (Locates c.args.sheet.now c.args.kind c.args.number) (sym e) (scan_broken c.loop-at.invariant (omega (arith, c.loop-at-test.true)) (λ z r g h. none z r g))

pub returns-then-order-least : goal.returns-then-order-least
returns-then-order-least c =
    let there = rw c.in_ok-entry.ensures.ok_part at c.entry_at.ensures in
    scan_broken c.loop-at.invariant (omega (arith, c.loop-at-test.true))
    (low_next entry_elements _ there (omega (arith, c.if-order-least.true, c.from.ensures, c.from-in-loop-at.ensures)))

pub loop-at-preserved : goal.loop-at-preserved
loop-at-preserved c =
    let there = rw c.in_ok-entry.ensures.ok_part at c.entry_at.ensures in
    let entry = c.in_ok-entry.entry in
    let found = c.loop-at.found in
    let order : c.from.result * 2 ^ 32 + c.from-in-loop-at.result ≡ entry.kind * 2 ^ 32 + entry.number = omega (arith, c.from.ensures, c.from-in-loop-at.ensures) in
    rw order
    (scan_more c.loop-at.invariant there (omega (arith, c.if-order-least.false, order))
    (elim c.if-entry-kind.branch [
      | then-entry-kind+then-entry-number w ↦
          ap part_or_none (w.found-is ∙ w.or-found.ensures) ∙ noted_here found _ _ (and_yes (eq-eqb _ _ w.if-entry-kind.true) (eq-eqb _ _ w.if-entry-number.true))
      | else-entry-kind w ↦
          ap part_or_none w.found-is
          ∙ noted_other found _ _
          (elim w.else-entry-kind.branch [
            | else-entry-kind-via-then-entry-kind+else-entry-number v ↦ and_right _ _ (ne_eqb _ _ v.if-entry-number.false)
            | else-entry-kind-via-else-entry-kind v ↦ and_left _ _ (ne_eqb _ _ v.if-entry-kind.false)
          ])
    ]))

pub returns : goal.returns
returns c = rw c.ok_or-2.ensures.value (scan_end c.loop-at.invariant c.requires (omega (arith, c.loop-at-test.false, c.loop-at.invariant.going.room)))
