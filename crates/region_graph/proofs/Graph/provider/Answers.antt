use mathlib.Core.Path.{◌≡◌, refl, ap, ◌∙◌}
use Prim.Native.Nat.{ℕ}
use Rattle.std.specs.Prelude.{Option, Some, None}
use Rattle.std.specs.Bool.{then_some}
use Rattle.region_graph.specs.Lists.{pick}
use mathlib.Core.Bool.{Bool, true, false}
use Rattle.std.proofs.lemmas.Option.{MatchOption-at_none, MatchOption-at_some}
use Rattle.region_graph.specs.Record.{meaning}
use Rattle.region_graph.proofs.Views.{provider_told, installed_stored, bundles_stored_as}
use Rattle.region_graph.proofs.Graph.provider.Goals as goal

-- the answer by a test, and by what it computes
provided : {b p : Bool} (r : ℕ) {o : Option ℕ} → b ≡ p → pick p (Some r) None ≡ o → then_some b r ≡ o
provided {b} {p} r e f = ap (λ (t : Bool). then_some t r) e ∙ go p ∙ f
  where
    go : (t : Bool) → then_some t r ≡ pick t (Some r) None
    go true = refl
    go false = refl

pub bundle_provides-requires : goal.bundle_provides-requires
bundle_provides-requires c =
    let s = c.args.self.now in
    MatchOption-at_some _ _ c.in_ok-b.b c.in_ok-b.was
    (installed_stored c.args.location c.installed.result (meaning s).bundles c.bundles.ensures c.installed.ensures (bundles_stored_as s c.requires c.bundles.ensures))

pub returns : goal.returns
returns c =
    c.then_some.ensures
    ∙ provided c.in_ok-b.b.now.region c.bundle_provides.ensures
    (MatchOption-at_some _ _ c.in_ok-b.b c.in_ok-b.was
    (provider_told c.args.location c.installed.result (meaning c.args.self.now).bundles c.bundles.ensures c.installed.ensures c.args.item))

pub returns-in_err-b : goal.returns-in_err-b
returns-in_err-b c =
    c.from_residual.ensures
    ∙ MatchOption-at_none _ _ c.in_err-b.was
    (provider_told c.args.location c.installed.result (meaning c.args.self.now).bundles c.bundles.ensures c.installed.ensures c.args.item)
