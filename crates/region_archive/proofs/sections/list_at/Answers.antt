use mathlib.Core.Path.{refl, ◌∙◌}
use native.Mathlib.Omega.{arith}
use lib.ListN.{length-set}
use Rattle.region_archive.proofs.FormLaws.{codes, no_next_code}
use Rattle.region_archive.proofs.CountedReads.{parsed_as}
use Rattle.region_archive.proofs.CountedLists.{counted_missing}
use Rattle.region_archive.proofs.ListReads.{list_more, list_stuck}
use Rattle.region_archive.proofs.sections.list_at.Goals as goal

pub returns-in_err-count : goal.returns-in_err-count
returns-in_err-count c =
    let a = c.args in
    rw c.from_residual.ensures (record {
      size = refl;
      answer = counted_missing (codes a.form) a.most (omega (arith, c.requires.at_in_bounds.1.0)) a.bytes.now a.at c.in_err-count.ensures;
    })

pub returns-in_err-code : goal.returns-in_err-code
returns-in_err-code c =
    let a = c.args in
    let l = c.loop-n in
    rw c.from_residual-in_err-code.ensures (record {
      size = l.invariant.size_is ∙ length-set a.row.now 0 c.in_ok-count.count.value;
      answer =
          list_stuck l.invariant (omega (arith, c.requires.at_in_bounds.1.0)) c.in_ok-count.ensures
          (omega (arith, length-set a.row.now 0 c.in_ok-count.count.value, c.in_ok-count.ensures.is_good)) c.loop-n-test.true
          (no_next_code a.form a.bytes.now l.to l.least c.in_err-code.ensures);
    })

pub loop-n-preserved : goal.loop-n-preserved
loop-n-preserved c =
    let p = c.in_ok-code.ensures in
    rw c.code_key-least.ensures
    (list_more c.loop-n.invariant (omega (arith, length-set c.args.row.now 0 c.in_ok-count.count.value, c.in_ok-count.ensures.is_good))
    (parsed_as p.is_good.good p) p.is_good.high)
