use mathlib.Core.Path.{refl, sym, ◌∙◌}
use Prim.Native.Nat.{◌+◌}
use native.Mathlib.Omega.{arith}
use lib.Seq.{length-take-le}
use Rattle.region_archive.proofs.RecordReads.{from_bytes, fields_start, fields_more, lengthless, no_field, misfit, record_stands}
use Rattle.region_archive.proofs.sections.RecordRules.record_at.Goals as goal

pub returns-in_err-length : goal.returns-in_err-length
returns-in_err-length c =
    let a = c.args in
    let q = from_bytes a.self.section a.self.regions a.bytes.now in
    rw c.from_residual.ensures (record { size = refl; answer = lengthless q a.at a.self.least c.in_err-length.ensures })

pub loop-field-init : goal.loop-field-init
loop-field-init c =
    let n = c.in_ok-length.length in
    (c.requires.1, fields_start (omega (arith, length-take-le (n.next + n.value) c.args.bytes.now c.in_ok-length.ensures.room)))

pub returns-in_err-to : goal.returns-in_err-to
returns-in_err-to c =
    let a = c.args in
    let q = from_bytes a.self.section a.self.regions a.bytes.now in
    rw c.from_residual-in_err-to.ensures (record {
      size = c.in_err-to.ensures.size ∙ c.loop-field.invariant.0 ∙ sym c.requires.1;
      answer =
          no_field q c.in_ok-length.ensures c.loop-field.invariant.1 c.in_err-to.ensures
          (omega (arith, c.loop-field-test.true, c.field_count-field-end.ensures));
    })

pub loop-field-preserved : goal.loop-field-preserved
loop-field-preserved c =
    (c.in_ok-to.ensures.size ∙ c.loop-field.invariant.0, fields_more c.loop-field.invariant.1 c.in_ok-to.ensures)

pub returns-then-to-stop : goal.returns-then-to-stop
returns-then-to-stop c =
    let a = c.args in
    let q = from_bytes a.self.section a.self.regions a.bytes.now in
    record {
      size = c.loop-field.invariant.0 ∙ sym c.requires.1;
      answer =
          misfit q c.in_ok-length.ensures c.loop-field.invariant.1 (omega (arith, c.loop-field-test.false, c.field_count-field-end.ensures))
          (λ e. omega (arith, e, c.if-to-stop.true));
    }

pub returns : goal.returns
returns c =
    let a = c.args in
    let q = from_bytes a.self.section a.self.regions a.bytes.now in
    record {
      size = c.loop-field.invariant.0 ∙ sym c.requires.1;
      answer =
          record_stands q c.in_ok-length.ensures c.loop-field.invariant.1
          (omega (arith, c.loop-field-test.false, c.field_count-field-end.ensures)) c.if-to-stop.false;
    }
