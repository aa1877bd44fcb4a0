-- A model and its restriction to a set of regions that no connection leaves answer the bundles of the set alike.
use mathlib.Core.Path.{◌≡◌, refl, sym, ap, ◌∙◌, subst}
use mathlib.Core.Bool.{Bool, true, false, ◌&&◌}
use mathlib.Core.List.{List, [], ◌∷◌}
use mathlib.Core.Option.{Option, some, none}
use Prim.Native.Nat.{ℕ, zero, suc}
use native.Mathlib.Omega.{arith}
use lib.Dec.{eqb}
use lib.ListN.{length}
use borrow.Author.Tests.{eqb-true}
use Rattle.region_graph.specs.Size.{regions}
use Rattle.region_graph.specs.Lists.{pick, exists, All, keep, count_from}
use Rattle.region_graph.specs.Model.{Model, Bundle, Connection, Legal, bundle_before}
use Rattle.region_graph.specs.Calls.{at_location}
use Rattle.region_graph.specs.Items.{holds, crosses, provides, passes}
use Rattle.region_graph.specs.Promise.{place_of, provider_place}
use Rattle.region_graph.specs.declared.Item.{Item}
use Rattle.std.specs.Prelude.{Option as Maybe, Some, None}
use Rattle.region_graph.proofs.Lists.{false_true, and_fst, and_snd, keep_same, exists_keep, exists_one, all_map}
use Rattle.region_graph.proofs.Ascending.{Rising, ascends_rising, strict_bundles}
use Rattle.region_routes.specs.Route.{Route, last, next}
use Rattle.region_routes.specs.Chosen.{first_of, put_before, guarded, exactly, from, found, chosen_by, chosen, PassesTo}
use Rattle.region_routes.specs.Hooks.{item, kind_number, is_installed, all_installed, sees_from, route_outcome, find_outcome, event_outcome}
use Rattle.region_routes.specs.declared.resolver.Candidate.{Candidate}
use Rattle.region_routes.specs.Resolve.{package_of, reaches, offered_at, is_offered, offered_from, places_for, resolve_outcome}
use Rattle.region_routes.specs.declared.Kind.{Kind}
use Rattle.region_routes.proofs.Choosing as routes
use Rattle.demands.specs.Isolation.{restricted, Closed, InstalledIn}
use Rattle.demands.proofs.Claims.{resolve_judged}
use Rattle.demands.proofs.Exporters.{others_elsewhere, provider_tells}

-- Routes over any passing test and any ending test: where two of each agree on a set that no step leaves, the same routes are found.

first_same : (f g : ℕ → Option (List ℕ)) → ((s : ℕ) → f s ≡ g s) → (ss : List ℕ) → first_of f ss ≡ first_of g ss
first_same f g h [] = refl
first_same f g h (s ∷ ss) = λ i. elim (h s i) [ none ↦ first_same f g h ss i | some p ↦ some p ]

guarded_same : (b c : Bool) (o u : Option (List ℕ)) → b ≡ c → (b ≡ true → o ≡ u) → guarded b o ≡ guarded c u
guarded_same true c o u e h = h refl ∙ ap (λ (t : Bool). guarded t u) e
guarded_same false c o u e h = ap (λ (t : Bool). guarded t u) e

module _ (inside : ℕ → Bool) (cross cross' : ℕ → ℕ → Bool) (ends ends' : ℕ → Bool)
    (same_cross : (r s : ℕ) → inside r ≡ true → cross r s ≡ cross' r s) (same_ends : (r : ℕ) → inside r ≡ true → ends r ≡ ends' r)
    (stays : (r s : ℕ) → inside r ≡ true → cross r s ≡ true → inside s ≡ true) where
  exactly_same : (k r : ℕ) → inside r ≡ true → exactly cross ends k r ≡ exactly cross' ends' k r
  exactly_same zero r i = rw (same_ends r i)
  exactly_same (suc k) r i =
      ap (put_before r)
      (first_same (λ s. guarded (cross r s) (exactly cross ends k s)) (λ s. guarded (cross' r s) (exactly cross' ends' k s))
      (λ s. guarded_same (cross r s) (cross' r s) (exactly cross ends k s) (exactly cross' ends' k s) (same_cross r s i)
      (λ e. exactly_same k s (stays r s i e))) (count_from 0 regions))

  from_same : (n k r : ℕ) → inside r ≡ true → from cross ends r k n ≡ from cross' ends' r k n
  from_same zero k r i = refl
  from_same (suc n) k r i = rw (exactly_same k r i, from_same n (suc k) r i)

  chosen_by_same : (r : ℕ) → inside r ≡ true → chosen_by cross ends r ≡ chosen_by cross' ends' r
  unfolding chosen_by
  chosen_by_same r i = from_same regions 0 r i

-- a test that only elements of the set pass is told by those alone
exists_inside : {A : Type 0} (q p : A → Bool) → ((x : A) → p x ≡ true → q x ≡ true) → (xs : List A) → exists p xs ≡ exists p (keep q xs)
exists_inside {A} q p h xs = sym (exists_keep p q xs ∙ go xs)
  where
    one : (a b : Bool) → (b ≡ true → a ≡ true) → (a && b) ≡ b
    one true b f = refl
    one false true f = f refl
    one false false f = refl

    go : (xs : List A) → exists (λ x. q x && p x) xs ≡ exists p xs
    go [] = refl
    go (x ∷ xs) = rw (one (q x) (p x) (h x), go xs)

-- The place of a location: a bundle that is kept keeps its place, and where locations ascend it has no other in the whole list.

kept_place : (q : Bundle → Bool) (l r : ℕ) (bs : List Bundle) → ((b : Bundle) → b.region ≡ r → q b ≡ true) → place_of bs l ≡ Some r
    → place_of (keep q bs) l ≡ Some r
kept_place q l r [] h e = e
kept_place q l r (b ∷ bs) h e = go (at_location l b) refl (q b) refl (kept_place q l r bs h) e
  where
    go : (t : Bool) → at_location l b ≡ t → (u : Bool) → q b ≡ u → (place_of bs l ≡ Some r → place_of (keep q bs) l ≡ Some r)
        → pick t (Some b.region) (place_of bs l) ≡ Some r → place_of (pick u (b ∷ keep q bs) (keep q bs)) l ≡ Some r
    go true f true k later e = rw f e
    go true f false k later e = let i : b.region ≡ r = cc in false_true (sym k ∙ h b i)
    go false f true k later e = rw f (later e)
    go false f false k later e = later e

none_placed : (q : Bundle → Bool) (l : ℕ) (bs : List Bundle) → All (λ b. at_location l b ≡ false) bs → place_of (keep q bs) l ≡ None
none_placed q l [] h = refl
none_placed q l (b ∷ bs) h = go (q b) (none_placed q l bs h.1)
  where
    go : (t : Bool) → place_of (keep q bs) l ≡ None → place_of (pick t (b ∷ keep q bs) (keep q bs)) l ≡ None
    go true e = rw h.0 e
    go false e = e

pub whole_place : (q : Bundle → Bool) (l r : ℕ) (bs : List Bundle) → Rising bundle_before bs → place_of (keep q bs) l ≡ Some r
    → place_of bs l ≡ Some r
whole_place q l r [] h e = e
whole_place q l r (b ∷ bs) h e = go (at_location l b) refl (q b) refl (whole_place q l r bs h.1) e
  where
    later_none : at_location l b ≡ true → place_of (keep q bs) l ≡ None
    later_none f = none_placed q l bs (others_elsewhere l b bs h.0 f)

    go : (t : Bool) → at_location l b ≡ t → (u : Bool) → q b ≡ u → (place_of (keep q bs) l ≡ Some r → place_of bs l ≡ Some r)
        → place_of (pick u (b ∷ keep q bs) (keep q bs)) l ≡ Some r → pick t (Some b.region) (place_of bs l) ≡ Some r
    go true f true k later e = rw f at e
    go true f false k later e = let n = later_none f in let z : ◌≡◌ {A = ℕ} 0 1 = cc in absurd (omega arith)
    go false f true k later e = later (rw f at e)
    go false f false k later e = later e

-- A bundle that provides an item: what is told of its place, and is the same of none and of the places of bundles that are left out, is told
-- of the kept ones alone.

unplaced : (l : ℕ) (i : Item) (bs : List Bundle) → place_of bs l ≡ None → provider_place bs l i ≡ None
unplaced l i bs e = go (provider_place bs l i) refl
  where
    go : (p : Maybe ℕ) → provider_place bs l i ≡ p → p ≡ None
    go None q = refl
    go (Some t) q = let f = (provider_tells l i t bs q).stands in let z : ◌≡◌ {A = ℕ} 0 1 = cc in absurd (omega arith)

provider_same : (f : Maybe ℕ → Bool) (q : Bundle → Bool) (l : ℕ) (i : Item) → ((b : Bundle) → q b ≡ false → f (Some b.region) ≡ f None)
    → (bs : List Bundle) → Rising bundle_before bs → f (provider_place bs l i) ≡ f (provider_place (keep q bs) l i)
provider_same f q l i h [] r = refl
provider_same f q l i h (b ∷ bs) r = go (at_location l b) refl (q b) refl (provider_same f q l i h bs r.1)
  where
    outside : (t : Bool) → q b ≡ false → f (pick t (Some b.region) None) ≡ f None
    outside true k = h b k
    outside false k = refl

    go : (t : Bool) → at_location l b ≡ t → (u : Bool) → q b ≡ u → f (provider_place bs l i) ≡ f (provider_place (keep q bs) l i)
        → f (pick t (pick (provides i b) (Some b.region) None) (provider_place bs l i)) ≡ f (provider_place (pick u (b ∷ keep q bs) (keep q bs)) l i)
    go true e true k later = rw e
    go true e false k later = outside (provides i b) k ∙ ap f (sym (unplaced l i (keep q bs) (none_placed q l bs (others_elsewhere l b bs r.0 e))))
    go false e true k later = rw e later
    go false e false k later = later

-- what is so of everything is so of each element
every : {A : Type 0} (P : A → Type 0) → ((x : A) → P x) → (xs : List A) → All P xs
every P h [] = tt
every P h (x ∷ xs) = (h x, every P h xs)

-- whether the bundle at a location sees an item, and is offered a candidate
abbrev sees_at : Model → Item → ℕ → Bool
sees_at m i l = sees_from m i (place_of m.bundles l)

abbrev offered_to : Model → Candidate → ℕ → Bool
offered_to m c l = offered_from m c (place_of m.bundles l)

-- A model and its restriction to a set that no connection leaves: what they answer to bundles of the set.
module _ (inside : ℕ → Bool) (m : Model) (closed : Closed inside m) where
  abbrev only : Model
  only = restricted inside m

  module _ (i : Item) (r : ℕ) (e : inside r ≡ true) where
    holds_inside : holds m i r ≡ holds only i r
    holds_inside =
        exists_inside _ (λ b. eqb b.region r && provides i b)
        (λ b t. rw (eqb-true b.region r (and_fst (eqb b.region r) (provides i b) t)) e) m.bundles

    module _ (s : ℕ) where
      abbrev leads : Connection → Bool
      leads c = (eqb c.source r && eqb c.target s) && passes i c.filter

      ends_of : (c : Connection) → leads c ≡ true → (c.source ≡ r) × (c.target ≡ s)
      ends_of c t =
          let from_r = eqb c.source r in
          let to_s = eqb c.target s in
          let both = and_fst (from_r && to_s) (passes i c.filter) t in
          (eqb-true c.source r (and_fst from_r to_s both), eqb-true c.target s (and_snd from_r to_s both))

      crosses_inside : crosses m i r s ≡ crosses only i r s
      crosses_inside = exists_inside _ leads (λ c t. rw (ends_of c t).0 e) m.connections

      -- a connection that leaves the region leads into the set
      stays_inside : crosses m i r s ≡ true → inside s ≡ true
      stays_inside t =
          let w = exists_one leads (λ c. inside c.target ≡ true) only.connections closed (sym crosses_inside ∙ t) in
          subst (λ (k : ℕ). inside k ≡ true) (ends_of w.0 w.1).1 w.2

  chosen_inside : (i : Item) (r : ℕ) → inside r ≡ true → chosen m i r ≡ chosen only i r
  unfolding chosen
  chosen_inside i =
      chosen_by_same inside (crosses m i) (crosses only i) (holds m i) (holds only i) (λ r s e. crosses_inside i r e s) (λ r e. holds_inside i r e)
      (λ r s e. stays_inside i r e s)

  -- Routes that end in one region. From the set none ends outside, so that an exporter there is offered in neither.
  reaches_inside : (i : Item) (t r : ℕ) → inside r ≡ true → reaches m i t r ≡ reaches only i t r
  unfolding reaches
  reaches_inside i t r e =
      ap found
      (chosen_by_same inside (crosses m i) (crosses only i) (eqb t) (eqb t) (λ r s e. crosses_inside i r e s) (λ r e. refl)
      (λ r s e. stays_inside i r e s) r e)

  ends_inside : (i : Item) {H : ℕ → Type 0} {r : ℕ} {p : List ℕ} → inside r ≡ true → Route (PassesTo m i) H r p → (t : ℕ) × H t × (inside t ≡ true)
  ends_inside i e (last {r = r} h) = (r, h, e)
  ends_inside i e (next {r = r} {s = s} g t) = ends_inside i (stays_inside i r e s g) t

  module _ (legal : Legal m) where
    outside_unreached : (i : Item) (t r : ℕ) → inside r ≡ true → inside t ≡ false → reaches m i t r ≡ false
    unfolding reaches
    outside_unreached i t r e o = go (reaches m i t r) refl
      where
        go : (b : Bool) → reaches m i t r ≡ b → b ≡ false
        go false q = refl
        go true q =
            let w = ends_inside i e (routes.found_route (crosses m i) (eqb t) (λ a b. routes.crosses_inside m i a b legal) r q).1 in
            false_true (sym o ∙ subst (λ (k : ℕ). inside k ≡ true) (sym (eqb-true t w.0 w.1)) w.2)

    offered_inside : (c : Candidate) (r : ℕ) → inside r ≡ true → is_offered m c r ≡ is_offered only c r
    offered_inside c r e =
        provider_same (offered_at m c r) _ c.exporter (package_of c) (λ b. outside_unreached (package_of c) b.region r e) m.bundles
        (ascends_rising bundle_before strict_bundles m.bundles legal.bundles_legal.ascend)
        ∙ go (provider_place only.bundles c.exporter (package_of c))
      where
        go : (p : Maybe ℕ) → offered_at m c r p ≡ offered_at only c r p
        go (Some t) = reaches_inside (package_of c) t r e
        go None = refl

  module _ (l : ℕ) (w : InstalledIn inside m l) where
    pub place_inside : place_of only.bundles l ≡ Some w.0
    place_inside = kept_place _ l w.0 m.bundles (λ b q. rw q w.2) w.1

    installed_inside : is_installed (place_of m.bundles l) ≡ is_installed (place_of only.bundles l)
    installed_inside = rw (w.1, place_inside)

    sees_inside : (i : Item) → sees_at m i l ≡ sees_at only i l
    sees_inside i = rw (w.1, place_inside) (ap found (chosen_inside i w.0 w.2))

    pub route_inside : (kind number version : ℕ) (entry : List ℕ)
        → route_outcome m l kind number version entry ≡ route_outcome only l kind number version entry
    route_inside kind number version entry = rw (w.1, place_inside, chosen_inside (item kind number version) w.0 w.2)

    pub find_inside : (k : Kind) (xs entry : List ℕ) → find_outcome m k l xs entry ≡ find_outcome only k l xs entry
    find_inside k xs entry =
        rw (
          installed_inside,
          keep_same (λ n. sees_at m (candidate n) l) (λ n. sees_at only (candidate n) l) xs
              (every (λ n. sees_at m (candidate n) l ≡ sees_at only (candidate n) l) (λ n. sees_inside (candidate n)) xs),
        )
      where
        candidate : ℕ → Item
        candidate n = item (kind_number k) n 0

    pub resolve_inside : Legal m → (xs : List Candidate) (entries : List (List ℕ)) → resolve_outcome m l xs entries ≡ resolve_outcome only l xs entries
    resolve_inside legal xs entries =
        let those = keep_same (λ c. offered_to m c l) (λ c. offered_to only c l) xs
        (every (λ c. offered_to m c l ≡ offered_to only c l) (λ c. rw (w.1, place_inside) (offered_inside legal c w.0 w.2)) xs) in
        λ j. resolve_judged (installed_inside j) (places_for (length xs) entries) (those j) entries

  listeners_inside : (xs : List ℕ) → All (InstalledIn inside m) xs → all_installed m xs ≡ all_installed only xs
  listeners_inside [] h = refl
  listeners_inside (x ∷ xs) h = rw (installed_inside x h.0, listeners_inside xs h.1)

  pub event_inside : (k : Kind) (number : ℕ) (xs entry : List ℕ) → All (InstalledIn inside m) xs
      → event_outcome m k xs number entry ≡ event_outcome only k xs number entry
  event_inside k number xs entry h =
      rw (
        listeners_inside xs h,
        keep_same (sees_at m i) (sees_at only i) xs
            (all_map (InstalledIn inside m) (λ l. sees_at m i l ≡ sees_at only i l) (λ l w. sees_inside l w i) xs h),
      )
    where
      i : Item
      i = item (kind_number k) number 0
