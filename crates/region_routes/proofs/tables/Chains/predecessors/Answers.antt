use mathlib.Core.Path.{refl, ◌∙◌}
use native.Mathlib.Omega.{arith}
use Rattle.region_routes.proofs.Chaining.{walking_start, walking_inside, walking_at, walking_next}
use Rattle.region_routes.proofs.Stepping.{number_walked}
use Rattle.region_routes.proofs.tables.Chains.predecessors.Goals as goal

pub loop-i-init : goal.loop-i-init
loop-i-init c =
    walking_start c.args.self.now.table.now c.args.number (rw c.into_iter-i-iterator.ensures.into_iter_gives c.places-i-items.ensures) refl

pub bounds-self-i : goal.bounds-self-i
bounds-self-i c = walking_inside c.loop-i.invariant c.in-Some.ensures.steps

pub offset_bounds-self-i : goal.offset_bounds-self-i
offset_bounds-self-i c = omega (arith, walking_inside c.loop-i.invariant c.in-Some.ensures.steps)

pub loop-i-preserved : goal.loop-i-preserved
loop-i-preserved c = walking_next c.loop-i.invariant c.in-Some.ensures.steps (rw c.add_step.ensures refl)

pub returns : goal.returns
returns c step e =
    walking_at c.loop-i.invariant c.in-None.ensures.steps.0
    ∙ number_walked c.args.self.now.table.now c.args.number c.args.given step e
