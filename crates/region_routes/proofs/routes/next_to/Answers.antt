use Rattle.std.proofs.Common.{sym, ◌∙◌}
use Rattle.region_routes.proofs.SetLaws.{has_in, has_not}
use Rattle.region_routes.proofs.SearchLoops.{lowest_in, taken}
use Rattle.region_routes.proofs.Walking.{next_here, next_later, next_found}
use Rattle.region_routes.proofs.routes.next_to.Goals as goal

pub returns-then-has : goal.returns-then-has
returns-then-has c =
    let s = c.in-Some.ensures.steps in
    next_here c.loop-next.invariant s.1 (lowest_in c.loop-next.invariant.word s.0 s.1) (has_in _ _ (sym c.has.ensures ∙ c.if-has.true))

pub loop-next-preserved : goal.loop-next-preserved
loop-next-preserved c =
    let s = c.in-Some.ensures.steps in
    next_later c.loop-next.invariant (taken c.loop-next.invariant.word s.0 s.1 s.2)
    (has_not _ _ c.requires.inside (sym c.has.ensures ∙ c.if-has.false))

pub unreachable-requires : goal.unreachable-requires
unreachable-requires c = next_found c.requires (rw c.in-None.ensures.steps at c.loop-next.invariant)
