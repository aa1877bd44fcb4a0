use Rattle.std.proofs.Common.{arith, rules, refl, not}
use Rattle.std.proofs.lemmas.Fn.{always_returns_same}
use Rattle.region_graph.specs.Model.{bundle_before}
use Rattle.region_graph.specs.Record.{bundle_in}
use Rattle.region_graph.specs.declared.bundles.StoredBundle.{StoredBundle}
use Rattle.region_graph.proofs.Ascending.{strict_bundles}
use Rattle.region_graph.proofs.Arrays.{filled_room, filled_free}
use Rattle.region_graph.proofs.Storing.{bundles_filled, filled_bundles}
use Rattle.region_graph.proofs.PlaceEdits.{inserted}
use Rattle.region_graph.proofs.bundles.Bundles.insert.Goals as goal

pub insert-requires-clause-in_bounds : goal.insert-requires-clause-in_bounds
insert-requires-clause-in_bounds c = filled_free (bundles_filled c.args.self.now c.requires.bundles_stored) c.requires.self_value.1

pub overflow_add-self : goal.overflow_add-self
overflow_add-self c = omega (arith, filled_room (bundles_filled c.args.self.now c.requires.bundles_stored) c.requires.self_value.1)

pub returns : goal.returns
returns c =
    let h = bundles_filled c.args.self.now c.requires.bundles_stored in
    let x = bundle_in c.args.bundle.now in
    let q = λ (y : StoredBundle). not (bundle_before x (bundle_in y)) in
    filled_bundles (inserted h q bundle_before x (λ y. refl) strict_bundles c.requires.self_value.0 (filled_room h c.requires.self_value.1)
    (rw c.requires.bundle_stored.stored at (c.insert.ensures q (always_returns_same _ _ _ (λ a r f k. search rules)))))
