use mathlib.Core.Path.{ap, ◌∙◌}
use mathlib.Core.Bool.{true}
use native.Mathlib.Omega.{arith}
use Rattle.std.specs.Prelude.{Some}
use Rattle.region_routes.proofs.Chaining.{walking_start, walking_inside, walking_at}
use Rattle.region_routes.proofs.Lookups.{first_place, place_walked}
use Rattle.region_routes.proofs.tables.Chains.place_of.Goals as goal

pub bounds-self-i : goal.bounds-self-i
bounds-self-i c =
    let es = c.args.self.now.table.now in
    walking_inside (walking_start {value = first_place es (λ i. true)} es c.args.number c.places.ensures (place_walked es c.args.number)) c.in_ok-i.ensures.steps

pub offset_bounds-self-i : goal.offset_bounds-self-i
offset_bounds-self-i c = omega (arith, bounds-self-i c)

pub returns : goal.returns
returns c =
    let es = c.args.self.now.table.now in
    ap Some c.place_in.ensures
    ∙ walking_at (walking_start {value = first_place es (λ i. true)} es c.args.number c.places.ensures (place_walked es c.args.number)) c.in_ok-i.ensures.steps

pub returns-in_err-i : goal.returns-in_err-i
returns-in_err-i c =
    let es = c.args.self.now.table.now in
    c.from_residual.ensures
    ∙ walking_at (walking_start {value = first_place es (λ i. true)} es c.args.number c.places.ensures (place_walked es c.args.number)) c.in_err-i.ensures.steps.0
