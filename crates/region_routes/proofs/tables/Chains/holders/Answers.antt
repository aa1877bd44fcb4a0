use mathlib.Core.List.{List}
use mathlib.Core.Path.{◌≡◌, refl, ap, ◌∙◌}
use Prim.Native.Nat.{ℕ}
use native.Mathlib.Omega.{arith}
use lib.ListN.{length}
use Rattle.std.specs.List.{fold}
use Rattle.region_graph.specs.Sets.{singleton}
use Rattle.region_routes.specs.Chains.{places_left}
use Rattle.region_routes.specs.Tables.{held_in}
use Rattle.region_routes.proofs.Chaining.{Walking, walking_start, walking_inside, walking_at, walking_next}
use Rattle.region_routes.proofs.Lookups.{with_holder, held_walked}
use Rattle.region_routes.proofs.tables.Chains.holders.Goals as goal

walk : (es : List ℕ) (n : ℕ) {left : List ℕ} → left ≡ places_left es n 0 → Walking (length es) (fold (with_holder es) 0) (held_in es n) left
walk es n e = walking_start es n e (held_walked es n)

-- no entry has the number
pub returns-in_default : goal.returns-in_default
returns-in_default c = walking_at (walk c.args.self.now.table.now c.args.number c.places-places.ensures) c.in_default.ensures.steps.0

pub bounds-self-first : goal.bounds-self-first
bounds-self-first c = walking_inside (walk c.args.self.now.table.now c.args.number c.places-places.ensures) c.in-Some.ensures.steps

pub offset_bounds-self-first : goal.offset_bounds-self-first
offset_bounds-self-first c = omega (arith, bounds-self-first c)

pub loop-i-init : goal.loop-i-init
loop-i-init c =
    let es = c.args.self.now.table.now in
    let s : c.singleton-set.result ≡ singleton _ = c.singleton-set.ensures ∙ ap singleton c.place_in.ensures in
    let w : Walking (length es) (fold (with_holder es) c.singleton-set.result) (held_in es c.args.number) _ =
    walking_next (walk es c.args.number c.places-places.ensures) c.in-Some.ensures.steps (rw s refl) in
    rw c.into_iter-i-iterator.ensures.into_iter_gives w

pub bounds-self-i : goal.bounds-self-i
bounds-self-i c = walking_inside c.loop-i.invariant c.in-Some-i.ensures.steps

pub offset_bounds-self-i : goal.offset_bounds-self-i
offset_bounds-self-i c = omega (arith, bounds-self-i c)

pub loop-i-preserved : goal.loop-i-preserved
loop-i-preserved c =
    let s : c.singleton-set-in-loop-i.result ≡ singleton _ = c.singleton-set-in-loop-i.ensures ∙ ap singleton c.place_in-in-loop-i.ensures in
    walking_next c.loop-i.invariant c.in-Some-i.ensures.steps (rw s refl)

pub returns : goal.returns
returns c = walking_at c.loop-i.invariant c.in-None.ensures.steps.0
