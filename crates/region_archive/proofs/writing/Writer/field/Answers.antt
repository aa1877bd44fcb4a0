use mathlib.Core.Path.{sym, ap}
use mathlib.Core.List.{[]}
use Prim.Native.Nat.{◌-◌, ◌<◌}
use native.Mathlib.Omega.{arith}
use lib.ListN.{length}
use Rattle.text_lines.proofs.Writes.{wrote_is}
use Rattle.region_archive.proofs.Records.{part_field}
use Rattle.region_archive.proofs.Fits.{few_fields}
use Rattle.region_archive.proofs.writing.Writer.field.Goals as goal

pub part-requires-clause-part_in_bounds : goal.part-requires-clause-part_in_bounds
part-requires-clause-part_in_bounds c =
    let a = c.args in
    let inside : a.field - 2 < length a.values.now.parts = omega (arith, few_fields a.section, c.requires.field_within, c.requires.values_fit.size) in
    omega (
      arith,
      ap length (part_field a.section a.values.now a.field (record { count = 0; items = [] }) (omega arith) inside c.form_of.ensures.0),
      c.requires.field_in_bounds,
    )

pub returns-in_default-clause-written : goal.returns-in_default-clause-written
returns-in_default-clause-written c =
    let a = c.args in
    let inside : a.field - 2 < length a.values.now.parts = omega (arith, few_fields a.section, c.requires.field_within, c.requires.values_fit.size) in
    wrote_is (sym (part_field a.section a.values.now a.field _ (omega arith) inside c.form_of.ensures.0)) c.part.ensures.written
