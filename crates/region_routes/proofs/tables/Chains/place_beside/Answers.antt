use mathlib.Core.Path.{◌≡◌, refl, ap, ◌∙◌}
use mathlib.Core.Bool.{true, false}
use lib.Dec.{eqb}
use lib.ListN.{get_or}
use native.Mathlib.Omega.{arith}
use borrow.Author.Tests.{eq-eqb, ne_eqb}
use Rattle.std.specs.Prelude.{Some}
use Rattle.region_routes.proofs.Chaining.{walking_start, walking_inside, walking_at, walking_next}
use Rattle.region_routes.proofs.Lookups.{beside_walked}
use Rattle.region_routes.proofs.tables.Chains.place_beside.Goals as goal

pub loop-i-init : goal.loop-i-init
loop-i-init c =
    let es = c.args.self.now.table.now in
    walking_start es c.args.number (rw c.into_iter-i-iterator.ensures.into_iter_gives c.places-i-items.ensures)
    (beside_walked es c.args.owned.now c.args.asked c.args.number c.requires)

pub bounds-owned-i : goal.bounds-owned-i
bounds-owned-i c = omega (arith, walking_inside c.loop-i.invariant c.in-Some.ensures.steps)

pub offset_bounds-owned-i : goal.offset_bounds-owned-i
offset_bounds-owned-i c = omega (arith, walking_inside c.loop-i.invariant c.in-Some.ensures.steps)

pub bounds-self-i : goal.bounds-self-i
bounds-self-i c = walking_inside c.loop-i.invariant c.in-Some.ensures.steps

pub offset_bounds-self-i : goal.offset_bounds-self-i
offset_bounds-self-i c = omega (arith, walking_inside c.loop-i.invariant c.in-Some.ensures.steps)

pub returns-then-owned-i : goal.returns-then-owned-i
returns-then-owned-i c =
    let e : eqb (get_or c.args.owned.now c.in-Some.i 0) c.args.asked ≡ true = eq-eqb _ _ c.if-owned-i.true in
    ap Some c.place_in.ensures ∙ rw e at (walking_at c.loop-i.invariant c.in-Some.ensures.steps)

pub loop-i-preserved : goal.loop-i-preserved
loop-i-preserved c =
    let e : eqb (get_or c.args.owned.now c.in-Some.i 0) c.args.asked ≡ false = ne_eqb _ _ c.if-owned-i.false in
    walking_next c.loop-i.invariant c.in-Some.ensures.steps (rw e refl)

pub returns : goal.returns
returns c = walking_at c.loop-i.invariant c.in-None.ensures.steps.0
