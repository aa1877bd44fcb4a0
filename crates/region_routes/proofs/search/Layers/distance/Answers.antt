use Rattle.std.proofs.Common.{ℕ, ◌+◌, ◌≤◌, ◌<◌, List, Option, Some, None, length, take, arith, rules, tests}
use Rattle.std.specs.Option.{MatchOption}
use Rattle.std.specs.List.{AllWithin, HoldsAt}
use Rattle.std.proofs.lemmas.List.{get_or-take, length-take}
use Rattle.std.proofs.lemmas.Iterator.{IsFirst-from_position, YieldsList-from_slice}
use Rattle.region_routes.specs.Search.{In, At, InLayer}
use Rattle.region_routes.proofs.SetLaws.{has_in, has_not}
use Rattle.region_routes.proofs.search.Layers.distance.Goals as goal

-- the first of the layers up to `deep` that has a region
first_layer : (sets : List ℕ) (deep region : ℕ) (r : Option ℕ) → deep < length sets
    → (let those = take (deep + 1) sets in
    MatchOption r (AllWithin (λ s. In s region → ⊥) those 0 (length those))
    (λ i. (i < length those) × HoldsAt (λ s. In s region) those i × AllWithin (λ s. In s region → ⊥) those 0 i))
    → MatchOption r ((j : ℕ) → j ≤ deep → At sets j region → ⊥) (λ d. InLayer sets deep region d)
first_layer sets deep region None l h =
    λ j m. rw (get_or-take (deep + 1) sets j 0 (omega arith)) at (h j 0 (omega arith) (omega (arith, length-take (deep + 1) sets)))
first_layer sets deep region (Some i) l h =
    let few : i < deep + 1 = omega (arith, h.0, length-take (deep + 1) sets) in
    record { within = omega arith; here = rw (get_or-take (deep + 1) sets i 0 few) at (h.1 0) }

pub returns : goal.returns
returns c =
    let s = c.args.self.now in
    let region = c.args.region in
    first_layer s.sets s.deep region c.position.result (search rules)
    (IsFirst-from_position _ _ _ (λ x. In x region) (λ x. In x region → ⊥) c.position.ensures.ran (YieldsList-from_slice (take (s.deep + 1) s.sets) cc)
    (λ x q k. has_in _ _ (search (rules, tests))) (λ x q k. (search (rules, tests), has_not _ _ c.requires.1 (search (rules, tests)))))
