use native.Mathlib.Omega.{arith}
use Rattle.region_archive.specs.Forms.{form_of}
use Rattle.region_archive.specs.RecordFields.{part_open}
use Rattle.region_archive.proofs.RecordLaws.{most_in_few}
use Rattle.region_archive.proofs.ListReads.{part_from_list, not_everything}
use Rattle.region_archive.proofs.sections.part_at.Goals as goal
use Rattle.region_archive.proofs.sections.part_at.Goals.{else-at-bytes-via-then-at-bytes+else-bytes-at, else-at-bytes-via-else-at-bytes}

pub returns : goal.returns
returns c =
    let a = c.args in
    let r = rw (c.field_list.ensures, c.most_in.ensures) at c.listed_at.ensures in
    record {
      size = r.size;
      answer =
          part_from_list (form_of a.section a.field) (most_in_few a.section) (part_open a.section a.field) a.bytes.now a.at
          (not_everything a.bytes.now a.at
          (elim c.else-at-bytes.branch [
            | else-at-bytes-via-then-at-bytes+else-bytes-at w ↦ λ h e. w.if-bytes-at.false e
            | else-at-bytes-via-else-at-bytes w ↦ λ h e. omega (arith, w.if-at-bytes.false)
          ])) c.listed_at.new.row c.listed_at.result r.answer;
    }
