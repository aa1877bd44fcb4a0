use Rattle.std.proofs.Common.{not, eqb, refl, rules}
use Rattle.region_graph.specs.Calls.{at_location}
use Rattle.region_graph.specs.declared.bundles.StoredBundle.{StoredBundle}
use Rattle.region_graph.proofs.Arrays.{filled_within}
use Rattle.region_graph.proofs.Storing.{bundles_filled, filled_bundles}
use Rattle.region_graph.proofs.PlaceEdits.{retained}
use Rattle.region_graph.proofs.bundles.Bundles.remove_at.Goals as goal

pub retain-self-requires-clause-in_bounds : goal.retain-self-requires-clause-in_bounds
retain-self-requires-clause-in_bounds c = filled_within (bundles_filled c.args.self.now c.requires)

pub returns : goal.returns
returns c =
    let q = λ (b : StoredBundle). not (eqb b.location c.args.location) in
    filled_bundles (retained (bundles_filled c.args.self.now c.requires) q (λ b. not (at_location c.args.location b)) (λ b. refl)
    (rw c.no_bundle.ensures at (c.retain-self.ensures q (λ b r k. search rules))))
