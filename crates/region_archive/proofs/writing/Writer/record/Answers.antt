use mathlib.Core.Path.{◌≡◌, sym, ◌∙◌}
use mathlib.Core.List.{◌++◌}
use native.Mathlib.Omega.{arith}
use Rattle.text_lines.proofs.Writes.{wrote_then, wrote_is}
use Rattle.big_endian.specs.Bytes.{big}
use Rattle.region_archive.specs.RecordFields.{bytes_to, field_bytes, field_count, fields_in}
use Rattle.region_archive.proofs.Pieces.{bytes_next}
use Rattle.region_archive.proofs.writing.Writer.record.Goals as goal

pub loop-field-preserved : goal.loop-field-preserved
loop-field-preserved c =
    let e = bytes_next (field_bytes c.args.section) c.loop-field.field (fields_in c.args.values.now) in
    (wrote_is (sym e) (wrote_then c.loop-field.invariant.0 c.field.ensures.written), c.field.ensures.same_buffer ∙ c.loop-field.invariant.1)

pub returns-clause-written : goal.returns-clause-written
returns-clause-written c =
    let k = c.args.section in
    let e : c.loop-field.field ≡ field_count k = omega (arith, c.field_count-field-end.ensures) in
    let size = c.fields_size.ensures.0 in
    wrote_is (λ i. big 2 (size i) ++ bytes_to (field_bytes k) (e i) (fields_in c.args.values.now)) (wrote_then c.number.ensures.written c.loop-field.invariant.0)
