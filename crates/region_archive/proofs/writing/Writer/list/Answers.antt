use mathlib.Core.Path.{◌∙◌}
use Prim.Native.Nat.{◌/◌}
use native.Mathlib.Omega.{arith}
use lib.ListN.{get_or}
use Rattle.big_endian.proofs.Digits.{big_length}
use Rattle.region_archive.specs.Forms.{element_bytes, scale}
use Rattle.region_archive.specs.RecordFields.{codes_of}
use Rattle.region_archive.proofs.Fits.{list_counted}
use Rattle.region_archive.proofs.Writes.{each_room, each_next, each_all}
use Rattle.region_archive.proofs.writing.Writer.list.Goals as goal

pub element-requires : goal.element-requires
element-requires c =
    let f = c.args.form in
    let n = c.args.list.now in
    let fit = c.requires.form_fits.1 in
    let code = get_or (codes_of n) c.loop-code.code-index 0 in
    omega (
      arith,
      each_room (element_bytes f) (codes_of n) (list_counted fit) (omega (arith, fit.count)) c.number.ensures.written c.loop-code.invariant.0
          c.loop-code-test.true 0 c.requires.list_in_bounds,
      big_length f.width (code / scale f),
    )

pub loop-code-preserved : goal.loop-code-preserved
loop-code-preserved c =
    (each_next (element_bytes c.args.form) (codes_of c.args.list.now) 0 c.loop-code-test.true c.loop-code.invariant.0 c.element.ensures.written, c.element.ensures.same_buffer ∙ c.loop-code.invariant.1)

pub returns-clause-written : goal.returns-clause-written
returns-clause-written c =
    let n = c.args.list.now in
    let fit = c.requires.form_fits.1 in
    each_all (element_bytes c.args.form) (codes_of n) (list_counted fit) (omega (arith, fit.count)) c.number.ensures.written c.loop-code.invariant.0
    c.loop-code-test.false
