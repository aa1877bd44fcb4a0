use mathlib.Core.Path.{refl, sym, ◌∙◌}
use lib.ListN.{get_or}
use native.Mathlib.Omega.{arith}
use Rattle.region_routes.specs.Tables.{span_has}
use Rattle.region_routes.specs.Chains.{places_left}
use Rattle.region_routes.proofs.Chaining.{walking_start, walking_inside, walking_at, walking_next}
use Rattle.region_routes.proofs.Stepping.{stepped_passed, stepped_failed, span_walked}
use Rattle.region_routes.proofs.tables.Chains.predecessors_between.Goals as goal

pub loop-i-init : goal.loop-i-init
loop-i-init c =
    walking_start c.args.self.now.table.now c.args.number (rw c.into_iter-i-iterator.ensures.into_iter_gives c.places-i-items.ensures) refl

pub bounds-spans-i : goal.bounds-spans-i
bounds-spans-i c = omega (arith, walking_inside c.loop-i.invariant c.in-Some.ensures.steps)

pub offset_bounds-spans-i : goal.offset_bounds-spans-i
offset_bounds-spans-i c = omega (arith, walking_inside c.loop-i.invariant c.in-Some.ensures.steps)

pub bounds-self-i : goal.bounds-self-i
bounds-self-i c = walking_inside c.loop-i.invariant c.in-Some.ensures.steps

pub offset_bounds-self-i : goal.offset_bounds-self-i
offset_bounds-self-i c = omega (arith, walking_inside c.loop-i.invariant c.in-Some.ensures.steps)

pub loop-i-preserved-then-is_between : goal.loop-i-preserved-then-is_between
loop-i-preserved-then-is_between c =
    walking_next c.loop-i.invariant c.in-Some.ensures.steps (stepped_passed c.args.self.now.table.now (λ i. span_has c.args.version (get_or c.args.spans.now i 0)) c.loop-i.sets c.in-Some.i
    (let s = c.next.new.self in places_left s.table.now s.number s.at)
    (sym c.is_between.ensures ∙ c.if-is_between.true) c.add_step.ensures)

pub loop-i-preserved : goal.loop-i-preserved
loop-i-preserved c = walking_next c.loop-i.invariant c.in-Some.ensures.steps (stepped_failed c.args.self.now.table.now (λ i. span_has c.args.version (get_or c.args.spans.now i 0)) c.loop-i.sets c.in-Some.i
    (let s = c.next.new.self in places_left s.table.now s.number s.at)
    (sym c.is_between.ensures ∙ c.if-is_between.false))

pub returns : goal.returns
returns c step e =
    walking_at c.loop-i.invariant c.in-None.ensures.steps.0
    ∙ span_walked c.args.self.now.table.now c.args.spans.now c.args.number c.args.version c.args.given c.requires step e
