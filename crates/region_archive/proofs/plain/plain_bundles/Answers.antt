use Rattle.std.proofs.Common.{refl, rules}
use Rattle.std.proofs.lemmas.List.Recursion.{and_is}
use Rattle.region_graph.specs.Lists.{every}
use Rattle.region_graph.specs.Record.{bundle_in, store_bundle, no_bundle}
use Rattle.region_graph.specs.declared.bundles.StoredBundle.{StoredBundle}
use Rattle.region_archive.specs.Image.{plain_bundle}
use Rattle.region_archive.proofs.plain.plain_bundles.Goals as goal

pub returns : goal.returns
returns c =
    let plain = λ (x : StoredBundle). plain_bundle (bundle_in x) in
    and_is (every plain) plain refl (λ _ _. refl) c.args.bundles.now (store_bundle no_bundle) _ (search rules) (search rules)
