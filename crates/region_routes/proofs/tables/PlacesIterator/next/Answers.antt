use mathlib.Core.Path.{sym, ap, ◌∙◌}
use native.Mathlib.Omega.{arith}
use lib.ListN.{length}
use Rattle.region_routes.proofs.Chaining.{left_none, left_own, left_other, link_further, link_reaches}
use Rattle.region_routes.proofs.tables.PlacesIterator.next.Goals as goal

pub invariant_of-self : goal.invariant_of-self
invariant_of-self c = record { standing = (link_reaches c.loop-self.self.standing c.loop-self-test.true c.from-self.ensures).standing }

pub returns-then-number_in-self-clause-steps : goal.returns-then-number_in-self-clause-steps
returns-then-number_in-self-clause-steps c =
    let s = c.loop-self.self in
    sym c.loop-self.invariant
    ∙ left_own s.table.now s.number s.at c.loop-self-test.true (sym c.number_in.ensures ∙ c.if-number_in-self.true)
    ∙ rw (link_reaches s.standing c.loop-self-test.true c.from-self.ensures).same

pub returns-then-number_in-self-clause-goes : goal.returns-then-number_in-self-clause-goes
returns-then-number_in-self-clause-goes c =
    let e = ap length (returns-then-number_in-self-clause-steps c) in
    record { on = λ f. (tt, tt, omega (arith, e)); keeps = tt; rests = λ f. tt }

pub loop-self-smaller : goal.loop-self-smaller
loop-self-smaller c = omega (arith, link_further c.loop-self.self.standing c.loop-self-test.true c.from-self.ensures)

pub loop-self-preserved : goal.loop-self-preserved
loop-self-preserved c =
    let s = c.loop-self.self in
    sym (link_reaches s.standing c.loop-self-test.true c.from-self.ensures).same
    ∙ sym (left_other s.table.now s.number s.at c.loop-self-test.true (λ e. c.if-number_in-self.false (c.number_in.ensures ∙ e)))
    ∙ c.loop-self.invariant

pub returns-clause-steps : goal.returns-clause-steps
returns-clause-steps c =
    let s = c.loop-self.self in
    let e = left_none s.table.now s.number s.at c.loop-self-test.false in
    (sym c.loop-self.invariant ∙ e, e)
