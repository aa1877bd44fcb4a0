use Rattle.std.proofs.Common.{refl, rules}
use Rattle.std.proofs.lemmas.List.Recursion.{and_is}
use Rattle.region_routes.specs.Hooks.{is_installed}
use Rattle.region_routes.specs.Tables.{place_at, all_placed}
use Rattle.region_routes.proofs.hooks.all_placed.Goals as goal

pub returns : goal.returns
returns c =
    let place = place_at c.args.bundles.now.table.now in
    and_is (all_placed place) (λ l. is_installed (place l)) refl (λ _ _. refl) c.args.listeners.now 0 _ (search rules) (search rules)
