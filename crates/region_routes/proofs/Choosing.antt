-- The computed `chosen` and `sees` are what `Best` and `Route` say.
use mathlib.Core.Path.{◌≡◌, refl, sym, ap, ◌∙◌, subst}
use mathlib.Core.Bool.{Bool, true, false, ◌&&◌, ◌||◌}
use mathlib.Core.Logic.{◌⊎◌, inl, inr}
use mathlib.Core.List.{List, [], ◌∷◌}
use mathlib.Core.Option.{Option, some, none}
use Prim.Native.Nat.{ℕ, zero, suc, ◌+◌, ◌≤◌, ◌<◌, zero-le}
use native.Mathlib.Omega.{arith}
use lib.Dec.{eqb}
use lib.ListN.{length}
use borrow.Author.Tests.{eqb-true}
use Rattle.region_graph.specs.Size.{regions}
use Rattle.region_graph.specs.Lists.{All, member, count_from}
use Rattle.region_graph.specs.Model.{Model, Legal, LegalConnection}
use Rattle.region_graph.specs.Items.{holds, crosses, passes}
use Rattle.region_graph.specs.declared.Item.{Item}
use Rattle.region_graph.proofs.Lists.{and_fst, and_snd, false_true, member_all, Distinct, distinct_length, member_count, exists_one}
use Rattle.region_routes.specs.Route.{Route, last, next, SmallerFirst, Best, NoRoute}
use Rattle.region_routes.specs.Chosen.{first_of, put_before, guarded, or_else, exactly, from, chosen_by, found, chosen, sees, RouteFor, NoRouteFor}
use Rattle.region_routes.specs.Chosen.{BestFor}
use Rattle.region_routes.proofs.RouteLaws.{lt_or_ge, nonempty, head_lex, best_unique}

-- what an answer says of the lists in P: it is the first of them, or there is none
abbrev First : (List ℕ → Type 0) → Option (List ℕ) → Type 0
First P none = (q : List ℕ) → P q → ⊥
First P (some p) = P p × ((q : List ℕ) → P q → SmallerFirst p q)

-- the same answer where P and Q are the same, and under a test
first_map : (P Q : List ℕ → Type 0) → ((q : List ℕ) → P q → Q q) → ((q : List ℕ) → Q q → P q) → (o : Option (List ℕ))
    → First P o → First Q o
first_map P Q f g none h = λ q t. h q (g q t)
first_map P Q f g (some p) h = (f p h.0, λ q t. h.1 q (g q t))

guarded_first : (P : List ℕ → Type 0) (b : Bool) (o : Option (List ℕ)) → First P o → First (λ q. (b ≡ true) × P q) (guarded b o)
guarded_first P true o h = first_map P (λ q. (true ≡ true) × P q) (λ q t. (refl, t)) (λ q t. t.1) o h
guarded_first P false o h = λ q t. false_true t.0

-- a list in P s for one of the n numbers s from a on
abbrev Among : (ℕ → List ℕ → Type 0) → ℕ → ℕ → List ℕ → Type 0
Among P a n q = (s : ℕ) × (a ≤ s) × (s < a + n) × P s q

-- where lists of smaller numbers come first, the first of the least number at which there is one is the first of all
module _ (P : ℕ → List ℕ → Type 0) (f : ℕ → Option (List ℕ)) (each : (s : ℕ) → First (P s) (f s))
    (orderly : (s t : ℕ) (p q : List ℕ) → s < t → P s p → P t q → SmallerFirst p q) where
  among_cases : {A : Type 0} (n a : ℕ) (q : List ℕ) → (P a q → A) → (Among P (suc a) n q → A) → Among P a (suc n) q → A
  among_cases {A} n a q here later t = go (lt_or_ge a t.0)
    where
      go : (a < t.0) ⊎ (t.0 ≤ a) → A
      go (inl l) = later (t.0, l, omega arith, t.3)
      go (inr l) = let e : t.0 ≡ a = omega arith in here (subst (λ s. P s q) e t.3)

  first_of_first : (n a : ℕ) → First (Among P a n) (first_of f (count_from a n))
  first_of_first zero a = λ q t. absurd (omega arith)
  first_of_first (suc n) a = go (f a) (each a) (first_of f (count_from (suc a) n)) (first_of_first n (suc a))
    where
      go : (o : Option (List ℕ)) → First (P a) o → (rest : Option (List ℕ)) → First (Among P (suc a) n) rest
          → First (Among P a (suc n)) (elim o [ none ↦ rest | some p ↦ some p ])
      go none h rest k =
          first_map (Among P (suc a) n) (Among P a (suc n)) (λ q t. (t.0, omega arith, omega arith, t.3))
          (λ q. among_cases n a q (λ u. absurd (h q u)) (λ u. u)) rest k
      go (some p) h rest k = (
        (a, omega arith, omega arith, h.0),
        λ q. among_cases n a q (h.1 q) (λ u. orderly a u.0 p q u.1 h.0 u.3),
      )

-- a route that passes no region twice: where there is a route there is such a one
abbrev Simple : (ℕ → ℕ → Type 0) → (ℕ → Type 0) → ℕ → Type 0
Simple E H r = (q : List ℕ) × Route E H r q × Distinct q

module _ {E : ℕ → ℕ → Type 0} {H : ℕ → Type 0} where
  -- the part from r on
  onward : (r : ℕ) {s : ℕ} {q : List ℕ} → Route E H s q → Distinct q → member r q ≡ true → Simple E H r
  onward r (last {r = s} h) d e = go (eqb r s) refl e
    where
      go : (b : Bool) → eqb r s ≡ b → (b || false) ≡ true → Simple E H r
      go true f k = subst (Simple E H) (sym (eqb-true r s f)) (s ∷ [], last h, d)
      go false f k = false_true k
  onward r (next {r = s} {p = p} g t) d e = go (eqb r s) refl (onward r t d.1) e
    where
      go : (b : Bool) → eqb r s ≡ b → (member r p ≡ true → Simple E H r) → (b || member r p) ≡ true → Simple E H r
      go true f later k = subst (Simple E H) (sym (eqb-true r s f)) (s ∷ p, next g t, d)
      go false f later k = later k

  -- the tail made so, and the first region before it, or its part from that region on
  simple : {r : ℕ} {p : List ℕ} → Route E H r p → Simple E H r
  simple (last {r = r} h) = (r ∷ [], last h, (refl, tt))
  simple (next {r = r} {s = s} g t) = go (simple t)
    where
      choose : (q : List ℕ) → Route E H s q → Distinct q → (b : Bool) → member r q ≡ b → Simple E H r
      choose q u d true e = onward r u d e
      choose q u d false e = (r ∷ q, next g u, (e, d))

      go : Simple E H s → Simple E H r
      go w = choose w.0 w.1 w.2 (member r w.0) refl

-- what an answer says of the routes from r: it is the best, or there is none
abbrev pub Says : (ℕ → ℕ → Type 0) → (ℕ → Type 0) → ℕ → Option (List ℕ) → Type 0
Says E H r none = NoRoute E H r
Says E H r (some p) = Best E H r p

-- a route of k connections
abbrev Exact : (ℕ → ℕ → Type 0) → (ℕ → Type 0) → ℕ → ℕ → List ℕ → Type 0
Exact E H k r q = Route E H r q × (length q ≡ suc k)

module _ {E : ℕ → ℕ → Type 0} {H : ℕ → Type 0} where
  -- one of no connections is its region alone, and one of more goes on from a next region
  alone : {r : ℕ} {q : List ℕ} → Route E H r q → length q ≡ 1 → H r × (q ≡ r ∷ [])
  alone (last h) e = (h, refl)
  alone (next g t) e = absurd (omega (arith, nonempty t))

  goes_on : {r : ℕ} {q : List ℕ} (k : ℕ) → Route E H r q → length q ≡ suc (suc k)
      → (p : List ℕ) × (s : ℕ) × (q ≡ r ∷ p) × E r s × Exact E H k s p
  goes_on k (last h) e = absurd (omega arith)
  goes_on k (next {s = s} {p = p} g t) e = (p, s, refl, g, (t, omega arith))

module _ (cross : ℕ → ℕ → Bool) (ends : ℕ → Bool) (inside : (r s : ℕ) → cross r s ≡ true → (r < regions) × (s < regions)) where
  abbrev pub E : ℕ → ℕ → Type 0
  E r s = cross r s ≡ true

  abbrev pub H : ℕ → Type 0
  H r = ends r ≡ true

  -- `exactly` finds the first of the routes of k connections
  exactly_first : (k r : ℕ) → First (Exact E H k r) (exactly cross ends k r)
  exactly_first zero r = go (ends r) refl
    where
      go : (b : Bool) → ends r ≡ b → First (Exact E H 0 r) (guarded b (some (r ∷ [])))
      go true e = ((last e, refl), λ q t. subst (SmallerFirst (r ∷ [])) (sym (alone t.0 t.1).1) (inr (refl, tt)))
      go false e = λ q t. false_true (sym e ∙ (alone t.0 t.1).0)
  exactly_first (suc k) r =
      go (first_of (λ s. guarded (cross r s) (exactly cross ends k s)) (count_from 0 regions))
      (first_of_first P (λ s. guarded (cross r s) (exactly cross ends k s))
      (λ s. guarded_first (Exact E H k s) (cross r s) (exactly cross ends k s) (exactly_first k s))
      (λ s t p q l u v. head_lex u.1.0 v.1.0 l) regions 0)
    where
      P : ℕ → List ℕ → Type 0
      P s q = E r s × Exact E H k s q

      rest : (q : List ℕ) → Exact E H (suc k) r q → (p : List ℕ) × (q ≡ r ∷ p) × Among P 0 regions p
      rest q t = let w = goes_on k t.0 t.1 in (w.0, w.2, (w.1, zero-le, (inside r w.1 w.3).1, (w.3, w.4)))

      go : (o : Option (List ℕ)) → First (Among P 0 regions) o → First (Exact E H (suc k) r) (put_before r o)
      go none h = λ q t. let w = rest q t in h w.0 w.2
      go (some p) h = (
        (next h.0.3.0 h.0.3.1.0, ap suc h.0.3.1.1),
        λ q t. let w = rest q t in subst (SmallerFirst (r ∷ p)) (sym w.1) (inr (refl, h.1 w.0 w.2)),
      )

  -- a route that passes no region twice has no more regions than there are
  all_inside : {r : ℕ} {p : List ℕ} → r < regions → Route E H r p → All (λ s. member s (count_from 0 regions) ≡ true) p
  all_inside {r} l (last h) = (member_count regions 0 r zero-le l, tt)
  all_inside l (next {r = r} {s = s} g t) = (member_count regions 0 r zero-le l, all_inside (inside r s g).1 t)

  short : {r : ℕ} {p : List ℕ} → Route E H r p → Distinct p → length p ≤ regions
  short (last h) d = omega arith
  short (next {r = r} {s = s} {p = p} g t) d =
      distinct_length (r ∷ p) (count_from 0 regions) d (all_inside (inside r s g).0 (next g t))

  -- `from` finds the best route where those of fewer connections are ruled out and the tries suffice
  pub from_says : (n k r : ℕ) → k + n ≡ regions → ((q : List ℕ) → Route E H r q → k < length q) → Says E H r (from cross ends r k n)
  from_says zero k r e low = λ q t. let w = simple t in omega (arith, low w.0 w.1, short w.1 w.2)
  from_says (suc n) k r e low = go (exactly cross ends k r) (exactly_first k r) (from_says n (suc k) r (omega arith))
    where
      go : (o : Option (List ℕ)) → First (Exact E H k r) o
          → (((q : List ℕ) → Route E H r q → suc k < length q) → Says E H r (from cross ends r (suc k) n))
          → Says E H r (or_else o (from cross ends r (suc k) n))
      go none h later = later λ q t. let d : (length q ≡ suc k → ⊥) = λ l. h q (t, l) in omega (arith, low q t)
      go (some p) h later =
          record {
            route = h.0.0;
            fewest = λ q t. omega (arith, low q t, h.0.1);
            smallest = λ q t l. h.1 q (t, sym l ∙ h.0.1);
          }

  -- the chosen route is the best, and there is one where there is a route
  module _ (r : ℕ) where
    says : Says E H r (chosen_by cross ends r)
    unfolding chosen_by
    says = from_says regions 0 r refl (λ q t. nonempty t)

    says_one : (o u : Option (List ℕ)) → Says E H r o → Says E H r u → o ≡ u
    says_one none none h k = refl
    says_one none (some q) h k = absurd (h q k.route)
    says_one (some p) none h k = absurd (k p h.route)
    says_one (some p) (some q) h k = ap some (best_unique h k)

    pub by_best : (p : List ℕ) → Best E H r p → chosen_by cross ends r ≡ some p
    by_best p b = says_one (chosen_by cross ends r) (some p) says b

    pub by_none : NoRoute E H r → chosen_by cross ends r ≡ none
    by_none n = says_one (chosen_by cross ends r) none says n

    pub best_by : (p : List ℕ) → chosen_by cross ends r ≡ some p → Best E H r p
    best_by p e = subst (Says E H r) e says

    pub none_by : chosen_by cross ends r ≡ none → NoRoute E H r
    none_by e = subst (Says E H r) e says

    pub found_route : found (chosen_by cross ends r) ≡ true → (p : List ℕ) × Route E H r p
    found_route = go (chosen_by cross ends r) says
      where
        go : (o : Option (List ℕ)) → Says E H r o → found o ≡ true → (p : List ℕ) × Route E H r p
        go none h e = false_true e
        go (some p) h e = (p, h.route)

    pub route_found : (p : List ℕ) → Route E H r p → found (chosen_by cross ends r) ≡ true
    route_found p t = go (chosen_by cross ends r) says
      where
        go : (o : Option (List ℕ)) → Says E H r o → found o ≡ true
        go none h = absurd (h p t)
        go (some q) h = refl

    -- a test that is true where there is a route and false where there is none says whether one is found
    pub found_is : (b : Bool) → (b ≡ true → (p : List ℕ) × Route E H r p) → (b ≡ false → NoRoute E H r) → b ≡ found (chosen_by cross ends r)
    found_is true f g = let w = f refl in sym (route_found w.0 w.1)
    found_is false f g = sym (ap found (by_none (g refl)))

-- a connection of a legal model has its ends in R, so below the count of regions
pub crosses_members : (m : Model) (i : Item) (r s : ℕ) → Legal m → crosses m i r s ≡ true
    → (member r m.regions ≡ true) × (member s m.regions ≡ true)
crosses_members m i r s l e =
    let w = exists_one (λ c. (eqb c.source r && eqb c.target s) && passes i c.filter) (LegalConnection m.regions) m.connections
    l.connections_legal.each e in
    let c = w.0 in
    let f = and_fst (eqb c.source r && eqb c.target s) (passes i c.filter) w.1 in (
      subst (λ n. member n m.regions ≡ true) (eqb-true c.source r (and_fst (eqb c.source r) (eqb c.target s) f)) w.2.source,
      subst (λ n. member n m.regions ≡ true) (eqb-true c.target s (and_snd (eqb c.source r) (eqb c.target s) f)) w.2.target,
    )

pub crosses_inside : (m : Model) (i : Item) (r s : ℕ) → Legal m → crosses m i r s ≡ true → (r < regions) × (s < regions)
crosses_inside m i r s l e =
    let w = crosses_members m i r s l e in
    let below : (n : ℕ) → member n m.regions ≡ true → n < regions = λ n. member_all (λ n. n < regions) n m.regions l.regions_legal.each in
    (below r w.0, below s w.1)

-- `chosen` is the best route, and `sees` says whether there is a route
module _ (m : Model) (i : Item) (r : ℕ) (l : Legal m) where
  inside : (r s : ℕ) → crosses m i r s ≡ true → (r < regions) × (s < regions)
  inside r s = crosses_inside m i r s l

  pub chosen_best : (p : List ℕ) → chosen m i r ≡ some p → BestFor m i r p
  unfolding chosen
  chosen_best = best_by (crosses m i) (holds m i) inside r

  pub chosen_none : chosen m i r ≡ none → NoRouteFor m i r
  unfolding chosen
  chosen_none = none_by (crosses m i) (holds m i) inside r

  pub best_chosen : (p : List ℕ) → BestFor m i r p → chosen m i r ≡ some p
  unfolding chosen
  best_chosen = by_best (crosses m i) (holds m i) inside r

  pub none_chosen : NoRouteFor m i r → chosen m i r ≡ none
  unfolding chosen
  none_chosen = by_none (crosses m i) (holds m i) inside r

  pub sees_route : sees m i r ≡ true → (p : List ℕ) × RouteFor m i r p
  unfolding chosen
  sees_route = found_route (crosses m i) (holds m i) inside r

  pub route_sees : (p : List ℕ) → RouteFor m i r p → sees m i r ≡ true
  unfolding chosen
  route_sees = route_found (crosses m i) (holds m i) inside r
