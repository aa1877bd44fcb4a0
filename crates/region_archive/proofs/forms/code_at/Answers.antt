use mathlib.Core.Path.{sym, ◌∙◌}
use Prim.Native.Nat.{◌^◌}
use Rattle.big_endian.proofs.NumberReads.{no_number}
use Rattle.region_archive.specs.Forms.{scale}
use Rattle.region_archive.proofs.FormLaws.{code_missing, code_small, code_stands, code_refused, shift_written}
use Rattle.region_archive.proofs.forms.code_at.Goals as goal

pub returns-in_err-read : goal.returns-in_err-read
returns-in_err-read c =
    let a = c.args in
    rw c.from_residual.ensures (code_missing a.form a.bytes.now a.at a.least (no_number c.requires.1.wide c.in_err-read.ensures c.requires.0))

pub returns-then-not-code_next : goal.returns-then-not-code_next
returns-then-not-code_next c =
    let a = c.args in
    let n = c.in_ok-read.read.value in
    code_refused a.bytes.now a.at a.least c.requires.1 c.in_ok-read.ensures.found
    (shift_written (2 ^ 64) n (scale a.form) a.form.rest (code_small c.requires.1 c.in_ok-read.ensures.found.is_good))
    (sym c.code_next.ensures ∙ c.if-not-code_next.true)

pub returns : goal.returns
returns c =
    let a = c.args in
    let n = c.in_ok-read.read.value in
    code_stands a.bytes.now a.at a.least c.requires.1 c.in_ok-read.ensures.found
    (shift_written (2 ^ 64) n (scale a.form) a.form.rest (code_small c.requires.1 c.in_ok-read.ensures.found.is_good))
    (sym c.code_next.ensures ∙ c.if-not-code_next.false)
