use mathlib.Core.Path.{◌≡◌, refl, sym, ap, ◌∙◌}
use Prim.Native.Nat.{ℕ, ◌+◌, ◌-◌, ◌*◌, ◌≤◌}
use native.Mathlib.Nat.{mul-le-mul_right}
use native.Mathlib.Omega.{arith}
use borrow.Rule.Slice.PartMut.{mid_len, same_len_mid}
use lib.ListN.{length}
use Rattle.region_archive.specs.RecordFields.{row_width}
use Rattle.region_archive.proofs.RecordReads.{from_bytes}
use Rattle.region_archive.proofs.SectionReads.{row_room, recording_start, recording_more, order_is, section_missing, section_stuck, section_end}
use Rattle.region_archive.proofs.sections.section_at.Goals as goal

pub returns-in_err-count : goal.returns-in_err-count
returns-in_err-count c =
    let a = c.args in
    rw c.from_residual.ensures
    (section_missing (from_bytes a.section a.regions a.bytes.now) a.from (rw c.most_records.ensures at c.in_err-count.ensures))

pub loop-n-init : goal.loop-n-init
loop-n-init c = (refl, recording_start c.in_ok-count.ensures.room)

pub returns-in_err-at : goal.returns-in_err-at
returns-in_err-at c =
    rw c.from_residual-in_err-at.ensures
    (section_stuck c.loop-n.invariant.1 (rw c.most_records.ensures at c.in_ok-count.ensures) c.loop-n-test.true c.in_err-at.ensures.answer)

pub loop-n-preserved : goal.loop-n-preserved
loop-n-preserved c =
    let a = c.args in
    let l = c.loop-n in
    let w = c.width-wide.result in
    let p = rw c.most_records.ensures at c.in_ok-count.ensures in
    let reached : (l.n + 1) * w ≤ length l.rows =
    rw c.width-wide.ensures (omega (arith, row_room a.section {n = l.n} (omega (arith, p.is_good, c.loop-n-test.true)), c.requires.1, l.invariant.0)) in
    let r = c.in_ok-at.ensures in
    let x = r.answer in (
      same_len_mid (l.n * w) ((l.n + 1) * w - l.n * w) l.rows c.record_at.new.row r.size ∙ l.invariant.0,
      recording_more l.invariant.1 x c.width-wide.ensures reached (r.size ∙ mid_len (l.n * w) ((l.n + 1) * w) l.rows reached)
          (order_is (from_bytes a.section a.regions a.bytes.now) x.value x.parsed.is_good.0 x.put c.low_word.ensures c.low_word-in-loop-n.ensures
          c.field_key-least.ensures),
    )

pub returns : goal.returns
returns c =
    let a = c.args in
    let l = c.loop-n in
    let p = rw c.most_records.ensures at c.in_ok-count.ensures in
    let all : l.n ≡ c.in_ok-count.count.value = omega arith in
    let room : c.in_ok-count.count.value * row_width a.section ≤ length l.rows =
    omega (arith, mul-le-mul_right (row_width a.section) p.is_good, c.requires.1, l.invariant.0) in
    rw c.width-wide.ensures (section_end l.invariant.1 p all (ap (λ (n : ℕ). n * row_width a.section) (sym all)) room)
