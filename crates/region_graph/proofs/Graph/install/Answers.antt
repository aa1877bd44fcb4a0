use mathlib.Core.Path.{◌≡◌, refl, sym, ap, ◌∙◌}
use Prim.Native.Nat.{ℕ}
use Rattle.std.proofs.Common.{rules, Err}
use Rattle.region_graph.specs.Refusals.{not_refused}
use Rattle.region_graph.specs.Lists.{insert_by}
use Rattle.region_graph.specs.Model.{Model, Bundle, bundle_before}
use Rattle.region_graph.specs.Calls.{Call, first_no, number, accepted, provided_questions, bundle_questions}
use Rattle.region_graph.specs.Record.{meaning, store_packages, store_provided, store_bundle, store_bundles, bundles_of, bundle_in, Provided}
use Rattle.region_graph.specs.Places.{ShortBundle}
use Rattle.region_graph.specs.Handed.{handed_bundle}
use Rattle.region_graph.specs.declared.packages.Packages.{Packages}
use Rattle.region_graph.specs.declared.bundles.StoredBundle.{StoredBundle}
use Rattle.region_graph.proofs.Legal.{first_step, second_step, installable}
use Rattle.region_graph.proofs.Storing.{stored_as, bundle_back, regions_stored, bundles_stored, connections_stored, stored_graph}
use Rattle.region_graph.proofs.Storing.{packages_words, provided_words, refusal_numbered, refused, accepts}
use Rattle.region_graph.proofs.Graph.install.Goals as goal

-- the number of the two steps is the call's
module _ (m : Model) (b : Bundle) {j : ℕ} (e : j ≡ first_no (provided_questions m.regions b.region b.packages b.services)) where
  asked_on : j ≡ not_refused → {k : ℕ} → k ≡ first_no (bundle_questions m.bundles m.connections b.region b.location) → k ≡ number m (Call.install b)
  asked_on =
      second_step (provided_questions m.regions b.region b.packages b.services) (bundle_questions m.bundles m.connections b.region b.location)
      (refl, (refl, (refl, (refl, tt)))) e

  asked_out : (j ≡ not_refused → ⊥) → j ≡ number m (Call.install b)
  asked_out =
      first_step (provided_questions m.regions b.region b.packages b.services) (bundle_questions m.bundles m.connections b.region b.location)
      (refl, (refl, (refl, (refl, tt)))) e

-- the new place stores the bundle
stores : (b : Bundle) {x : Packages} {y : Provided} → x ≡ store_packages b.packages → y ≡ store_provided b.services
    → ◌≡◌ {A = StoredBundle} (record { location = b.location; region = b.region; packages = x; services = y }) (store_bundle b)
stores b e f = λ i. record { location = b.location; region = b.region; packages = e i; services = f i }

pub returns-in_err-ask_provided : goal.returns-in_err-ask_provided
unfolding meaning
returns-in_err-ask_provided c =
    let e : c.from_residual.result ≡ Err c.in_err-ask_provided.field-0.0 = search rules in
    refused c.args.self.now (Call.install (handed_bundle c.args.region c.args.location c.args.lists)) c.requires c.in_err-ask_provided.field-0.0
    (asked_out (meaning c.args.self.now) (handed_bundle c.args.region c.args.location c.args.lists) c.in_err-ask_provided.ensures
    (refusal_numbered c.in_err-ask_provided.field-0.0)) e

pub returns-in_err-ask_bundle : goal.returns-in_err-ask_bundle
unfolding meaning
returns-in_err-ask_bundle c =
    let e : c.from_residual-in_err-ask_bundle.result ≡ Err c.in_err-ask_bundle.field-0.0 = search rules in
    refused c.args.self.now (Call.install (handed_bundle c.args.region c.args.location c.args.lists)) c.requires c.in_err-ask_bundle.field-0.0
    (asked_on (meaning c.args.self.now) (handed_bundle c.args.region c.args.location c.args.lists) c.in_ok-ask_provided.ensures refl
    c.in_err-ask_bundle.ensures) e

pub insert-requires : goal.insert-requires
unfolding meaning
insert-requires c =
    let g = c.args.self.now in
    let b = handed_bundle c.args.region c.args.location c.args.lists in
    let o = installable (meaning g) b (sym (asked_on (meaning g) b c.in_ok-ask_provided.ensures refl c.in_ok-ask_bundle.ensures)) in
    record {
      bundles_stored = bundles_stored g c.requires;
      bundle_stored =
          stored_as store_bundle bundle_in ShortBundle (λ b h. bundle_back b) b (stores b c.from_list.ensures c.from_slice.ensures)
          (record { packages = o.few_packages; services = o.few_services });
      self_value = (c.requires.good.bundles_legal.ascend, o.room);
    }

pub returns : goal.returns
unfolding meaning
returns c =
    let g = c.args.self.now in
    let b = handed_bundle c.args.region c.args.location c.args.lists in
    accepts g (Call.install b) c.requires (
      c.ranges.location.fits,
      packages_words b.packages c.from_list.ensures (λ i. search rules) (λ i. search rules),
      provided_words b.services c.from_slice.ensures (λ i. search rules),
    )
    (asked_on (meaning g) b c.in_ok-ask_provided.ensures refl c.in_ok-ask_bundle.ensures)
    (stored_graph (accepted (meaning g) (Call.install b)) (regions_stored g c.requires)
    (c.insert.ensures
    ∙ ap (λ (y : Bundle). store_bundles (insert_by bundle_before y (bundles_of g.bundles)))
    (ap bundle_in (stores b c.from_list.ensures c.from_slice.ensures) ∙ bundle_back b))
    (connections_stored g c.requires).stored)
