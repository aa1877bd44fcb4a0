use native.Mathlib.Omega.{arith}
use Rattle.big_endian.proofs.Digits.{big_length}
use Rattle.big_endian.proofs.NumberReads.{no_number, bytes_missing}
use Rattle.name_sheet.proofs.EntryLaws.{no_size, too_small, too_great, cut_short, kind_over, not_text, entry_stands}
use Rattle.name_sheet.proofs.entries.entry_at.Goals as goal
use Rattle.name_sheet.proofs.entries.entry_at.Goals.{then-count-le-FIELDS-via-then-count-le-FIELDS, then-count-le-FIELDS-via-else-count-le-FIELDS+then-count, then-count-le-FIELDS-via-else-count-le-FIELDS+else-count+then-bytes-size}
use Rattle.name_sheet.proofs.entries.entry_at.Goals.{then-kind-gt-GREATEST_KIND-via-then-kind-gt-GREATEST_KIND, then-kind-gt-GREATEST_KIND-via-else-kind-gt-GREATEST_KIND+then-not-is_text}

-- no length stands at the place
pub returns-in_err-size : goal.returns-in_err-size
returns-in_err-size c = rw c.from_residual.ensures (no_size c.args.bytes.now c.args.at (no_number (omega arith) c.in_err-size.ensures c.requires))

pub returns-then-count-le-FIELDS : goal.returns-then-count-le-FIELDS
returns-then-count-le-FIELDS c =
    let size = c.in_ok-size.ensures.found in
    elim c.then-count-le-FIELDS.branch [
      | then-count-le-FIELDS-via-then-count-le-FIELDS w ↦ too_small size w.if-count-le-FIELDS.true
      | then-count-le-FIELDS-via-else-count-le-FIELDS+then-count w ↦ too_great size w.if-count.true
      | then-count-le-FIELDS-via-else-count-le-FIELDS+else-count+then-bytes-size w ↦ cut_short size w.if-bytes-size.true
    ]

-- where its length has room, the kind and the number do
pub returns-in_err-kind : goal.returns-in_err-kind
returns-in_err-kind c =
    absurd (bytes_missing (omega arith) c.in_err-kind.ensures
    (omega (arith, c.in_ok-size.ensures.found.room, c.if-bytes-size.false, c.if-count-le-FIELDS.false)))

pub returns-in_err-number : goal.returns-in_err-number
returns-in_err-number c =
    let kind = c.in_ok-kind.ensures.found in
    absurd (bytes_missing (omega arith) c.in_err-number.ensures
    (omega (
      arith,
      c.in_ok-size.ensures.found.room,
      c.if-bytes-size.false,
      c.if-count-le-FIELDS.false,
      kind.ends,
      big_length 1 c.in_ok-kind.kind.value,
    )))

pub returns-then-kind-gt-GREATEST_KIND : goal.returns-then-kind-gt-GREATEST_KIND
returns-then-kind-gt-GREATEST_KIND c =
    let size = c.in_ok-size.ensures.found in
    let kind = c.in_ok-kind.ensures.found in
    elim c.then-kind-gt-GREATEST_KIND.branch [
      | then-kind-gt-GREATEST_KIND-via-then-kind-gt-GREATEST_KIND w ↦ kind_over size kind w.if-kind-gt-GREATEST_KIND.true
      | then-kind-gt-GREATEST_KIND-via-else-kind-gt-GREATEST_KIND+then-not-is_text w ↦
          not_text size kind c.in_ok-number.ensures.found c.if-count-le-FIELDS.false c.if-count.false c.if-bytes-size.false w.if-not-is_text.ensures
    ]

pub returns : goal.returns
returns c =
    entry_stands c.in_ok-size.ensures.found c.in_ok-kind.ensures.found c.in_ok-number.ensures.found c.if-count-le-FIELDS.false c.if-count.false
    c.if-bytes-size.false c.if-kind-gt-GREATEST_KIND.false c.if-not-is_text.ensures
