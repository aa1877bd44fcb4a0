use mathlib.Core.Path.{sym, ap, ◌∙◌}
use Prim.Native.Nat.{◌-◌, ◌<◌}
use native.Mathlib.Omega.{arith}
use lib.ListN.{length}
use Rattle.region_graph.proofs.Lists.{all_at}
use Rattle.big_endian.proofs.Digits.{big_length}
use Rattle.region_archive.specs.RecordFields.{CodePartFits, fields_in, first_width}
use Rattle.region_archive.proofs.Records.{first_field, part_field}
use Rattle.region_archive.proofs.Fits.{few_fields, narrow_first}
use Rattle.region_archive.proofs.writing.field_size.Goals as goal

pub returns-in-0 : goal.returns-in-0
returns-in-0 c =
    let s = c in
    let k = s.args.section in
    let e = ap length (first_field k (fields_in s.args.values.now) c.in-0.is) ∙ big_length (first_width k) s.args.values.now.first in
    (c.first_width.ensures ∙ sym e, omega (arith, c.first_width.ensures, narrow_first k))

pub returns-in_default : goal.returns-in_default
returns-in_default c =
    let inside : c.args.field - 2 < length c.args.values.now.parts =
    omega (arith, few_fields c.args.section, c.requires.field_within, c.requires.values_fit.size) in
    let s = c in
    let e = part_field s.args.section s.args.values.now s.args.field _ (omega arith) inside c.form_of.ensures.0 in
    (c.part_size.ensures.0 ∙ sym (ap length e), c.part_size.ensures.1)

pub offset_bounds-values-field : goal.offset_bounds-values-field
offset_bounds-values-field c = omega (arith, few_fields c.args.section, c.requires.field_within)

pub bounds-values-field : goal.bounds-values-field
bounds-values-field c = omega (arith, few_fields c.args.section, c.requires.field_within)

pub part_size-requires : goal.part_size-requires
part_size-requires c =
    let inside : c.args.field - 2 < length c.args.values.now.parts =
    omega (arith, few_fields c.args.section, c.requires.field_within, c.requires.values_fit.size) in
    let s = c in
    (c.form_of.ensures.1, all_at CodePartFits s.args.values.now.parts _ _ inside s.requires.values_fit.each)
