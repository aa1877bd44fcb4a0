use mathlib.Core.Path.{refl, sym, ◌∙◌}
use native.Mathlib.Omega.{arith}
use borrow.Author.Tests.{ltb-true, ltb-false}
use lib.ListN.{length-set}
use Rattle.region_graph.specs.Size.{regions}
use Rattle.big_endian.proofs.NumberReads.{no_number}
use Rattle.region_archive.proofs.RegionReads.{regions_start, regions_missing, regions_stuck, regions_end, regions_more, no_byte, no_region}
use Rattle.region_archive.proofs.sections.regions_at.Goals as goal
use Rattle.region_archive.proofs.sections.regions_at.Goals.{then-region-least-via-then-region-least, then-region-least-via-else-region-least+then-not-is_region}

pub returns-in_err-count : goal.returns-in_err-count
returns-in_err-count c = rw c.from_residual.ensures (regions_missing c.args.bytes.now c.args.from c.in_err-count.ensures)

pub loop-n-init : goal.loop-n-init
loop-n-init c = (refl, regions_start c.in_ok-count.ensures.room)

pub returns-in_err-region : goal.returns-in_err-region
returns-in_err-region c =
    let l = c.loop-n in
    rw c.from_residual-in_err-region.ensures
    (regions_stuck c.in_ok-count.ensures l.invariant.1 (omega (arith, l.invariant.0, c.in_ok-count.ensures.is_good, c.requires.1)) c.loop-n-test.true
    (no_byte c.args.bytes.now l.at l.least (no_number (omega arith) c.in_err-region.ensures l.invariant.1.going.room)))

pub returns-then-region-least : goal.returns-then-region-least
returns-then-region-least c =
    let l = c.loop-n in
    regions_stuck c.in_ok-count.ensures l.invariant.1 (omega (arith, l.invariant.0, c.in_ok-count.ensures.is_good, c.requires.1)) c.loop-n-test.true
    (no_region c.in_ok-region.ensures.found
    (λ i.
    elim c.then-region-least.branch [
      | then-region-least-via-then-region-least w ↦ w.if-region-least.true
      | then-region-least-via-else-region-least+then-not-is_region w ↦
          absurd (omega (arith, i, ltb-false c.in_ok-region.region.value regions (sym w.is_region.ensures ∙ w.if-not-is_region.true)))
    ]))

pub loop-n-preserved : goal.loop-n-preserved
loop-n-preserved c =
    let l = c.loop-n in (
      length-set l.list l.n c.in_ok-region.region.value ∙ l.invariant.0,
      regions_more l.invariant.1 (omega (arith, l.invariant.0, c.in_ok-count.ensures.is_good, c.requires.1)) c.in_ok-region.ensures.found
          c.if-region-least.false (ltb-true c.in_ok-region.region.value regions (sym c.is_region.ensures ∙ c.if-not-is_region.false))
          c.singleton-set.ensures,
    )

pub returns : goal.returns
returns c =
    let l = c.loop-n in
    regions_end c.in_ok-count.ensures l.invariant.1 (omega (arith, l.invariant.0, c.in_ok-count.ensures.is_good, c.requires.1)) (omega arith)
    (omega arith)
