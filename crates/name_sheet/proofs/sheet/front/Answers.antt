use native.Mathlib.Omega.{arith}
use borrow.Author.Tests.{eqb-true}
use Rattle.big_endian.proofs.NumberReads.{bytes_missing}
use Rattle.name_sheet.proofs.OneSheet.{no_front, front_short, front_other, front_read}
use Rattle.name_sheet.proofs.sheet.front.Goals as goal

-- a number that is not there shows that the front is not there
pub returns-in_default : goal.returns-in_default
returns-in_default c = no_front (front_short (λ h. bytes_missing (omega arith) (rw c.in_default.is-1 at c.number_at-2.ensures) (omega (arith, h))))

pub returns-in_default-2 : goal.returns-in_default-2
returns-in_default-2 c = no_front (front_short (λ h. bytes_missing (omega arith) (rw c.in_default.is-0 at c.number_at.ensures) (omega (arith, h))))

pub returns-else-version-eq-VERSION : goal.returns-else-version-eq-VERSION
returns-else-version-eq-VERSION c =
    let other = front_other c.in-Some-Some.ensures.found c.if-version-eq-VERSION.false in
    record { yes = λ e. absurd (c.if-version-eq-VERSION.false (eqb-true _ _ e)); no = λ e. other }

pub returns-then-version-eq-VERSION : goal.returns-then-version-eq-VERSION
returns-then-version-eq-VERSION c = front_read c.in-Some-Some.ensures.found c.if-version-eq-VERSION.true c.in-Some-Some.ensures'.found
