-- Candidates that carry their exporter: the computed test says what `Offered` does, that is the least solution of 001's equation for the
-- exporter's region, and a number is seen exactly when some exporter's candidate is offered.
use mathlib.Core.Path.{◌≡◌, refl, sym, ap, ◌∙◌, subst}
use mathlib.Core.Bool.{Bool, true, false, ◌&&◌, ◌||◌, or-false}
use mathlib.Core.List.{List, [], ◌∷◌}
use Prim.Native.Nat.{ℕ, ◌<◌}
use native.Mathlib.Omega.{arith}
use lib.Dec.{eqb}
use borrow.Author.Tests.{eqb-true, eq-eqb, ne_eqb, ltb-true}
use Rattle.region_graph.specs.Size.{regions}
use Rattle.region_graph.specs.Lists.{pick, exists, All}
use Rattle.region_graph.specs.Model.{Model, Bundle, Legal, bundle_before}
use Rattle.region_graph.specs.Calls.{at_location}
use Rattle.region_graph.specs.Items.{crosses, provides}
use Rattle.region_graph.specs.Promise.{place_of, provider_place}
use Rattle.region_graph.specs.declared.Item.{Item}
use Rattle.std.specs.Prelude.{Option, Some, None}
use Rattle.region_graph.proofs.Lists.{and_fst, and_snd, false_true, all_map}
use Rattle.region_graph.proofs.Ascending.{Rising, ascends_rising, strict_bundles, or_right, none_any}
use Rattle.region_routes.specs.Route.{Route, last, next}
use Rattle.region_routes.specs.Chosen.{PassesTo, HeldAt}
use Rattle.region_routes.specs.Hooks.{item, kind_number}
use Rattle.region_routes.specs.declared.resolver.Candidate.{Candidate}
use Rattle.region_routes.specs.Resolve.{package_of, reaches, offered_at, is_offered}
use Rattle.region_routes.specs.declared.Kind.TheVariants as Kind
use Rattle.region_routes.proofs.RouteLaws.{carry}
use Rattle.region_routes.proofs.Choosing.{crosses_members, crosses_inside, found_route, route_found}
use Rattle.demands.specs.Claim.{Seen, Offered}
use Rattle.demands.specs.Net.{ExportedIn, ExporterNetRegions}
use Rattle.demands.proofs.NetLaws.{Reached, routes_net, retold_net}

-- where locations ascend, no later bundle is at the location of this one
pub others_elsewhere : (l : ℕ) (b : Bundle) (bs : List Bundle) → All (λ d. bundle_before b d ≡ true) bs → at_location l b ≡ true
    → All (λ d. at_location l d ≡ false) bs
others_elsewhere l b bs h a =
    all_map (λ d. bundle_before b d ≡ true) (λ d. at_location l d ≡ false)
    (λ d k. ne_eqb d.location l (λ z. omega (arith, ltb-true b.location d.location k, eqb-true b.location l a))) bs h

-- The place of a bundle that provides an item.
module _ (l : ℕ) (i : Item) where
  abbrev there : Bundle → Bool
  there b = at_location l b && provides i b

  -- the bundle there provides the item, so its region holds it
  pub record Provided (t : ℕ) (bs : List Bundle) : Type 0 where
    pub stands : place_of bs l ≡ Some t
    pub has_it : exists there bs ≡ true
    pub held : exists (λ b. eqb b.region t && provides i b) bs ≡ true

  pub provider_tells : (t : ℕ) (bs : List Bundle) → provider_place bs l i ≡ Some t → Provided t bs
  provider_tells t [] e = let z : ◌≡◌ {A = ℕ} 0 1 = cc in absurd (omega arith)
  provider_tells t (b ∷ bs) e = go (at_location l b) refl (provides i b) refl (provider_tells t bs) e
    where
      go : (u : Bool) → at_location l b ≡ u → (v : Bool) → provides i b ≡ v → (provider_place bs l i ≡ Some t → Provided t bs)
          → pick u (pick v (Some b.region) None) (provider_place bs l i) ≡ Some t → Provided t (b ∷ bs)
      go true a true p later k =
          let s : b.region ≡ t = cc in
          record { stands = rw (a, s); has_it = rw (a, p); held = rw (eq-eqb b.region t s, p) }
      go true a false p later k = let z : ◌≡◌ {A = ℕ} 0 1 = cc in absurd (omega arith)
      go false a v p later k =
          let w = later k in
          record { stands = rw a w.stands; has_it = rw a w.has_it; held = or_right (eqb b.region t && provides i b) w.held }

  -- a bundle there that provides it is the one that is found, since locations ascend
  pub tells_provider : (t : ℕ) (bs : List Bundle) → Rising bundle_before bs → place_of bs l ≡ Some t → exists there bs ≡ true
      → provider_place bs l i ≡ Some t
  tells_provider t [] r e x = e
  tells_provider t (b ∷ bs) r e x = go (at_location l b) refl (tells_provider t bs r.1) e x
    where
      go : (u : Bool) → at_location l b ≡ u → (place_of bs l ≡ Some t → exists there bs ≡ true → provider_place bs l i ≡ Some t)
          → pick u (Some b.region) (place_of bs l) ≡ Some t → ((u && provides i b) || exists there bs) ≡ true
          → pick u (pick (provides i b) (Some b.region) None) (provider_place bs l i) ≡ Some t
      go true a later k y =
          let no_other : exists there bs ≡ false = none_any there bs
          (all_map (λ d. at_location l d ≡ false) (λ d. there d ≡ false) (λ d h. ap (λ (u : Bool). u && provides i d) h) bs
          (others_elsewhere l b bs r.0 a)) in
          let here : provides i b ≡ true = sym (or-false (provides i b)) ∙ ap (λ (u : Bool). provides i b || u) (sym no_other) ∙ y in
          rw here k
      go false a later k y = later k y

-- a region that holds an item holds it by a bundle that stands there
record Holder (p : Bundle → Bool) (t : ℕ) (bs : List Bundle) : Type 0 where
  location : ℕ
  stands : place_of bs location ≡ Some t
  has_it : exists (λ b. at_location location b && p b) bs ≡ true
  above : (k : ℕ) → All (λ d. k < d.location) bs → k < location

holder : (p : Bundle → Bool) (t : ℕ) (bs : List Bundle) → Rising bundle_before bs → exists (λ b. eqb b.region t && p b) bs ≡ true → Holder p t bs
holder p t [] r e = false_true e
holder p t (b ∷ bs) r e = go (eqb b.region t && p b) refl (holder p t bs r.1) e
  where
    go : (q : Bool) → (eqb b.region t && p b) ≡ q → (exists (λ b. eqb b.region t && p b) bs ≡ true → Holder p t bs)
        → (q || exists (λ b. eqb b.region t && p b) bs) ≡ true → Holder p t (b ∷ bs)
    go true a later k =
        let s : b.region ≡ t = eqb-true b.region t (and_fst (eqb b.region t) (p b) a) in
        let here : at_location b.location b ≡ true = eq-eqb b.location b.location refl in
        record { location = b.location; stands = rw (here, s); has_it = rw (here, and_snd (eqb b.region t) (p b) a); above = λ k h. h.0 }
    go false a later k =
        let w = later k in
        let low : b.location < w.location = w.above b.location
        (all_map (λ d. bundle_before b d ≡ true) (λ d. b.location < d.location) (λ d. ltb-true b.location d.location) bs r.0) in
        let other : at_location w.location b ≡ false = ne_eqb b.location w.location (λ z. omega (arith, z, low)) in
        record {
          location = w.location;
          stands = rw other w.stands;
          has_it = rw other w.has_it;
          above = λ k h. w.above k h.1;
        }

-- the region where a route ends
record Ends (E : ℕ → ℕ → Type 0) (H : ℕ → Type 0) (r : ℕ) (p : List ℕ) : Type 0 where
  region : ℕ
  holds : H region
  route : Route E (λ s. H s × (s ≡ region)) r p

route_ends : {E : ℕ → ℕ → Type 0} {H : ℕ → Type 0} {r : ℕ} {p : List ℕ} → Route E H r p → Ends E H r p
route_ends (last {r = r} h) = record { region = r; holds = h; route = last (h, refl) }
route_ends (next e t) = let w = route_ends t in record { region = w.region; holds = w.holds; route = next e w.route }

module _ (m : Model) (l : Legal m) where
  rising : Rising bundle_before m.bundles
  rising = ascends_rising bundle_before strict_bundles m.bundles l.bundles_legal.ascend

  module _ (c : Candidate) where
    abbrev P : Item
    P = package_of c

    inside : (a b : ℕ) → crosses m P a b ≡ true → (a < regions) × (b < regions)
    inside a b = crosses_inside m P a b l

    -- the region of an exporter that has the package is the one that is computed
    exported_provider : {t : ℕ} → ExportedIn m c t → provider_place m.bundles c.exporter P ≡ Some t
    exported_provider {t} h = tells_provider c.exporter P t m.bundles rising h.0 h.1

    -- and it holds the package
    exported_held : {t : ℕ} → ExportedIn m c t → HeldAt m P t
    exported_held {t} h = (provider_tells c.exporter P t m.bundles (exported_provider h)).held

    -- what is computed is what is meant
    pub test_offered : (r : ℕ) → is_offered m c r ≡ true → Offered m c r
    unfolding reaches
    test_offered r e = go (provider_place m.bundles c.exporter P) refl e
      where
        go : (p : Option ℕ) → provider_place m.bundles c.exporter P ≡ p → offered_at m c r p ≡ true → Offered m c r
        go None q k = false_true k
        go (Some t) q k =
            let b = provider_tells c.exporter P t m.bundles q in
            let w = found_route (crosses m P) (eqb t) inside r k in
            record {
              home = t;
              stands = b.stands;
              has_it = b.has_it;
              path = w.0;
              route = carry (λ a b h. h) (λ n h. let f : t ≡ n = eqb-true t n h in (subst (HeldAt m P) f b.held, omega (arith, f))) w.1;
            }

    pub offered_test : (r : ℕ) → Offered m c r → is_offered m c r ≡ true
    unfolding reaches
    offered_test r o =
        subst (λ (p : Option ℕ). offered_at m c r p ≡ true) (sym (exported_provider (o.stands, o.has_it)))
        (route_found (crosses m P) (eqb o.home) inside r o.path (carry (λ a b h. h) (λ n h. eq-eqb o.home n (omega (arith, h.1))) o.route))

    -- a candidate is offered where some route ends in the region from which it is exported
    offered_reached : (r : ℕ) → Offered m c r → Reached (PassesTo m P) (ExportedIn m c) r
    offered_reached r o = (o.path, carry (λ a b h. h) (λ n h. subst (ExportedIn m c) (sym h.1) (o.stands, o.has_it)) o.route)

    reached_offered : (r : ℕ) → Reached (PassesTo m P) (ExportedIn m c) r → Offered m c r
    reached_offered r w =
        let d = route_ends w.1 in
        record {
          home = d.region;
          stands = d.holds.0;
          has_it = d.holds.1;
          path = w.0;
          route = carry (λ a b h. h) (λ n h. (exported_held h.0, h.1)) d.route;
        }

  -- the candidates offered are the net regions of their exporters
  pub offered_net : ExporterNetRegions m (Offered m)
  offered_net c = retold_net (reached_offered c) (offered_reached c) (routes_net (λ r s e. (crosses_members m (package_of c) r s l e).1))

  -- what a package's number and version alone let a region see is what some exporter offers it
  module _ (n v r : ℕ) where
    abbrev of_exporter : ℕ → Candidate
    of_exporter e = record { exporter = e; number = n; version = v }

    pub kept_sees : (e : ℕ) → Offered m (of_exporter e) r → Seen m (item (kind_number Kind.Package) n v) r
    kept_sees e o = (o.path, carry (λ a b h. h) (λ s h. h.0) o.route)

    pub sees_kept : Seen m (item (kind_number Kind.Package) n v) r → (e : ℕ) × Offered m (of_exporter e) r
    sees_kept s =
        let d = route_ends s.1 in
        let b = holder (provides (item (kind_number Kind.Package) n v)) d.region m.bundles rising d.holds in
        (b.location, record { home = d.region; stands = b.stands; has_it = b.has_it; path = s.0; route = d.route })
