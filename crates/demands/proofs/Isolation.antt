-- Two graphs that agree on a set of regions answer the bundles of the set alike: each as its restriction does.
use mathlib.Core.Path.{◌≡◌, sym, ap, ◌∙◌, subst}
use mathlib.Core.Bool.{Bool, true}
use mathlib.Core.List.{List}
use Prim.Native.Nat.{ℕ}
use Rattle.region_graph.specs.Lists.{All}
use Rattle.region_graph.specs.Model.{Model, Legal, bundle_before}
use Rattle.region_graph.specs.Record.{meaning}
use Rattle.region_graph.specs.Promise.{place_of}
use Rattle.region_graph.specs.declared.Graph.{Graph}
use Rattle.std.specs.Prelude.{Some}
use Rattle.region_graph.proofs.Lists.{all_map}
use Rattle.region_graph.proofs.Ascending.{ascends_rising, strict_bundles}
use Rattle.region_routes.specs.Hooks.{Outcome, route_outcome, find_outcome, event_outcome, Routed, Kept}
use Rattle.region_routes.specs.declared.resolver.Candidate.{Candidate}
use Rattle.region_routes.specs.Resolve.{resolve_outcome}
use Rattle.region_routes.specs.declared.Kind.{Kind}
use Rattle.region_host.specs.CNumbers.{CAnswer, routed_value, kept_value}
use Rattle.demands.specs.Interface.{RouteCalls, ListCalls, ResolveCalls}
use Rattle.demands.specs.ByValue.{ValueRoute, ValueFind, ValueEvent, ValueResolve}
use Rattle.demands.specs.Lent.{CRoute, CFind, CEvent, CResolve}
use Rattle.demands.specs.Isolation.{restricted, Closed, Agree, InstalledIn, Isolated}
use Rattle.demands.proofs.Meets.{meets_by_value, c_routes, c_finds, c_events, c_resolves}
use Rattle.demands.proofs.Restricted.{whole_place, place_inside, route_inside, find_inside, event_inside, resolve_inside}

-- Two models that agree on a set.
module _ (inside : ℕ → Bool) (m n : Model) (agree : Agree inside m n) (legal : Legal m) (also_legal : Legal n) where
  also_closed : Closed inside n
  also_closed = subst (λ (x : Model). All (λ c. inside c.target ≡ true) x.connections) agree.same agree.closed

  also_installed : (l : ℕ) → InstalledIn inside m l → InstalledIn inside n l
  also_installed l w = (
    w.0,
    whole_place _ l w.0 n.bundles (ascends_rising bundle_before strict_bundles n.bundles also_legal.bundles_legal.ascend)
        (subst (λ (x : Model). place_of x.bundles l ≡ Some w.0) agree.same (place_inside inside m agree.closed l w)),
    w.2,
  )

  -- what each answers as its restriction does, they answer alike
  alike : {A : Type 0} (f : Model → A) → f m ≡ f (restricted inside m) → f n ≡ f (restricted inside n) → f m ≡ f n
  alike f p q = p ∙ ap f agree.same ∙ sym q

  route_same : (l kind number version : ℕ) (entry : List ℕ) → InstalledIn inside m l
      → route_outcome m l kind number version entry ≡ route_outcome n l kind number version entry
  route_same l kind number version entry w =
      alike (λ x. route_outcome x l kind number version entry) (route_inside inside m agree.closed l w kind number version entry)
      (route_inside inside n also_closed l (also_installed l w) kind number version entry)

  find_same : (k : Kind) (l : ℕ) (xs entry : List ℕ) → InstalledIn inside m l → find_outcome m k l xs entry ≡ find_outcome n k l xs entry
  find_same k l xs entry w =
      alike (λ x. find_outcome x k l xs entry) (find_inside inside m agree.closed l w k xs entry)
      (find_inside inside n also_closed l (also_installed l w) k xs entry)

  event_same : (k : Kind) (number : ℕ) (xs entry : List ℕ) → All (InstalledIn inside m) xs
      → event_outcome m k xs number entry ≡ event_outcome n k xs number entry
  event_same k number xs entry h =
      alike (λ x. event_outcome x k xs number entry) (event_inside inside m agree.closed k number xs entry h)
      (event_inside inside n also_closed k number xs entry (all_map (InstalledIn inside m) (InstalledIn inside n) also_installed xs h))

  resolve_same : (l : ℕ) (xs : List Candidate) (entries : List (List ℕ)) → InstalledIn inside m l
      → resolve_outcome m l xs entries ≡ resolve_outcome n l xs entries
  resolve_same l xs entries w =
      alike (λ x. resolve_outcome x l xs entries) (resolve_inside inside m agree.closed l w legal xs entries)
      (resolve_inside inside n also_closed l (also_installed l w) also_legal xs entries)

-- a call tells of an outcome: the answer by f, and what was lent
abbrev Told : {A B E : Type 0} → (A → B) → Outcome A E → B → E → Type 0
Told f o a exit = (a ≡ f o.answer) × (exit ≡ o.exit)

told_same : {A B E : Type 0} (f : A → B) {o u : Outcome A E} {a b : B} {exit exit' : E} → o ≡ u → Told f o a exit → Told f u b exit'
    → (a ≡ b) × (exit ≡ exit')
told_same {A} {E = E} f e t s =
    (t.0 ∙ ap (λ (x : Outcome A E). f x.answer) e ∙ sym s.0, t.1 ∙ ap (λ (x : Outcome A E). x.exit) e ∙ sym s.1)

-- calls that tell of the outcomes that are promised
record Tells {R K : Type 0} (f : Routed → R) (c : Kept → K) (route : RouteCalls R) (find event : ListCalls K) (resolve : ResolveCalls K) : Type 0 where
  routes : {g : Graph} {l kind number version : ℕ} {entry exit : List ℕ} {a : R} → route g l kind number version entry a exit
      → Told f (route_outcome (meaning g) l kind number version entry) a exit
  finds : {g : Graph} {k : Kind} {l : ℕ} {xs entry exit : List ℕ} {a : K} → find g k l xs entry a exit
      → Told c (find_outcome (meaning g) k l xs entry) a exit
  events : {g : Graph} {k : Kind} {number : ℕ} {xs entry exit : List ℕ} {a : K} → event g k number xs entry a exit
      → Told c (event_outcome (meaning g) k xs number entry) a exit
  resolves : {g : Graph} {l : ℕ} {xs : List Candidate} {entries exits : List (List ℕ)} {a : K} → resolve g l xs entries a exits
      → Told c (resolve_outcome (meaning g) l xs entries) a exits

isolated : {R K : Type 0} (f : Routed → R) (c : Kept → K) {route : RouteCalls R} {find event : ListCalls K} {resolve : ResolveCalls K}
    → Tells f c route find event resolve → Isolated route find event resolve
isolated f c t inside g h v w agree =
    record {
      routes = λ {l} {kind} {number} {version} {entry} i p q.
          told_same f (route_same inside (meaning g) (meaning h) agree v.good w.good l kind number version entry i) (t.routes p) (t.routes q);
      finds = λ {k} {l} {xs} {entry} i p q.
          told_same c (find_same inside (meaning g) (meaning h) agree v.good w.good k l xs entry i) (t.finds p) (t.finds q);
      events = λ {k} {number} {xs} {entry} i p q.
          told_same c (event_same inside (meaning g) (meaning h) agree v.good w.good k number xs entry i) (t.events p) (t.events q);
      resolves = λ {l} {xs} {entries} i p q.
          told_same c (resolve_same inside (meaning g) (meaning h) agree v.good w.good l xs entries i) (t.resolves p) (t.resolves q);
    }

-- by value, and the numbers that C gets
pub isolated_by_value : Isolated ValueRoute ValueFind ValueEvent ValueResolve
isolated_by_value =
    isolated (λ a. a) (λ a. a)
    (record {
      routes = λ p. told (meets_by_value.routes p);
      finds = λ p. told (meets_by_value.finds p);
      events = λ p. told (meets_by_value.events p);
      resolves = λ p. told (meets_by_value.resolves p);
    })
  where
    told : {A E : Type 0} {o u : Outcome A E} → o ≡ u → Told (λ a. a) u o.answer o.exit
    told {A} {E} e = (ap (λ (x : Outcome A E). x.answer) e, ap (λ (x : Outcome A E). x.exit) e)

pub isolated_lent : Isolated CRoute CFind CEvent CResolve
isolated_lent =
    isolated routed_value kept_value
    (record {
      routes = λ p. told (c_routes p);
      finds = λ p. told (c_finds p);
      events = λ p. told (c_events p);
      resolves = λ p. told (c_resolves p);
    })
  where
    told : {E : Type 0} {x y : CAnswer E} → x ≡ y → (x.value ≡ y.value) × (x.exit ≡ y.exit)
    told {E} e = (ap (λ (x : CAnswer E). x.value) e, ap (λ (x : CAnswer E). x.exit) e)
