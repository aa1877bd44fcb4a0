use mathlib.Core.Path.{sym, ◌∙◌}
use native.Mathlib.Omega.{arith}
use Rattle.big_endian.proofs.NumberReads.{no_number}
use Rattle.region_archive.proofs.Fits.{narrow_first}
use Rattle.region_archive.proofs.FieldReads.{first_missing, first_read, first_refused}
use Rattle.region_archive.proofs.sections.RecordRules.first_at.Goals as goal

pub returns-in_err-first : goal.returns-in_err-first
returns-in_err-first c =
    rw c.from_residual.ensures
    (first_missing c.first_width.ensures
    (no_number (omega (arith, c.first_width.ensures, narrow_first c.args.self.section)) c.in_err-first.ensures c.requires.0))

pub returns-then-not-first_good : goal.returns-then-not-first_good
returns-then-not-first_good c =
    rw c.from.ensures (first_refused c.first_width.ensures c.in_ok-first.ensures.found (sym c.first_good.ensures ∙ c.if-not-first_good.true))

pub returns : goal.returns
returns c =
    rw c.from.ensures
    (first_read c.first_width.ensures c.in_ok-first.ensures.found (omega (arith, c.requires.1))
    (sym c.first_good.ensures ∙ c.if-not-first_good.false))
