use mathlib.Core.Path.{sym, ◌∙◌}
use native.Mathlib.Omega.{arith}
use Rattle.big_endian.proofs.NumberReads.{no_number}
use Rattle.region_archive.proofs.FieldReads.{second_missing, second_read, second_refused}
use Rattle.region_archive.proofs.sections.RecordRules.second_at.Goals as goal

pub returns-in_err-second : goal.returns-in_err-second
returns-in_err-second c = rw c.from_residual.ensures (second_missing (no_number (omega arith) c.in_err-second.ensures c.requires.0))

pub returns-then-not-second_good : goal.returns-then-not-second_good
returns-then-not-second_good c =
    rw c.from.ensures
    (second_refused c.in_ok-second.ensures.found c.requires.1 (rw c.from.ensures at c.low_word.ensures)
    (sym c.second_good.ensures ∙ c.if-not-second_good.true))

pub returns : goal.returns
returns c =
    rw c.from.ensures
    (second_read c.in_ok-second.ensures.found c.requires.1 (rw c.from.ensures at c.low_word.ensures)
    (sym c.second_good.ensures ∙ c.if-not-second_good.false))
