-- What routes let a region see is the least solution of 001's equation, and on G7 there is a greater one.
use mathlib.Core.Path.{◌≡◌, refl, subst}
use mathlib.Core.Bool.{Bool, true, false, and-false}
use mathlib.Core.Logic.{inl, inr}
use mathlib.Core.List.{List, [], ◌∷◌}
use Prim.Native.Nat.{ℕ}
use native.Mathlib.Omega.{arith}
use Rattle.region_graph.specs.Lists.{pick, All, member}
use Rattle.region_graph.specs.Model.{Model, Bundle, Legal, LegalBundle, nothing}
use Rattle.region_graph.specs.Calls.{run, at_location}
use Rattle.region_graph.specs.Promise.{place_of}
use Rattle.region_graph.specs.declared.Item.{Item}
use Rattle.std.specs.Prelude.{Some}
use Rattle.region_graph.proofs.Lists.{false_true, member_all}
use Rattle.region_routes.specs.Route.{Route, last, next}
use Rattle.region_routes.specs.Chosen.{PassesTo, HeldAt, RouteFor}
use Rattle.region_routes.specs.Hooks.{item, kind_number}
use Rattle.region_routes.specs.declared.Kind.TheVariants as Kind
use Rattle.region_routes.proofs.Choosing.{crosses_members}
use Rattle.demands.specs.Claim.{Seen}
use Rattle.demands.specs.Net.{OwnOrPassed, Solves, LeastSolution, NetRegions}
use Rattle.demands.specs.JointTable.{cycle}

-- Over any passing relation and any ending test: some route.
abbrev pub Reached : (ℕ → ℕ → Type 0) → (ℕ → Type 0) → ℕ → Type 0
Reached E H r = (p : List ℕ) × Route E H r p

module _ {E : ℕ → ℕ → Type 0} {H : ℕ → Type 0} where
  first_step : {r : ℕ} {p : List ℕ} → Route E H r p → OwnOrPassed E H (Reached E H) r
  first_step (last h) = inl h
  first_step (next {s = s} {p = p} e t) = inr (s, e, (p, t))

  longer : (r : ℕ) → OwnOrPassed E H (Reached E H) r → Reached E H r
  longer r (inl h) = (r ∷ [], last h)
  longer r (inr (s, e, n)) = (r ∷ n.0, next e n.1)

  module _ {rs : List ℕ} where
    -- routes solve the equation
    pub routes_solve : Solves rs E H (Reached E H)
    routes_solve = record { opens = λ r h n. first_step n.1; closes = λ r h. longer r }

    module _ (into : (r s : ℕ) → E r s → member s rs ≡ true) where
      -- what they reach is in every solution
      pub routes_least : (N : ℕ → Type 0) → Solves rs E H N → (r : ℕ) → member r rs ≡ true → Reached E H r → N r
      routes_least N solves r h n = go h n.1
        where
          go : {r : ℕ} {p : List ℕ} → member r rs ≡ true → Route E H r p → N r
          go h (last {r = r} d) = solves.closes r h (inl d)
          go h (next {r = r} {s = s} e t) = solves.closes r h (inr (s, e, go (into r s e) t))

      pub routes_net : LeastSolution rs E H (Reached E H)
      routes_net = record { solves = routes_solve; least = routes_least }

    -- any two accounts of the least solution say the same
    pub same_net : {N M : ℕ → Type 0} → LeastSolution rs E H N → LeastSolution rs E H M → (r : ℕ) → member r rs ≡ true → N r → M r
    same_net {N} {M} a b r h = a.least M b.solves r h

    -- what says the same as the least solution is it
    pub retold_net : {N M : ℕ → Type 0} → ((r : ℕ) → N r → M r) → ((r : ℕ) → M r → N r) → LeastSolution rs E H N → LeastSolution rs E H M
    retold_net {N} {M} f g a = record {
      solves = record { opens = λ r h x. each f r (a.solves.opens r h (g r x)); closes = λ r h x. f r (a.solves.closes r h (each g r x)) };
      least = λ S s r h x. a.least S s r h (g r x);
    }
      where
        each : {N M : ℕ → Type 0} → ((r : ℕ) → N r → M r) → (r : ℕ) → OwnOrPassed E H N r → OwnOrPassed E H M r
        each f r (inl h) = inl h
        each f r (inr (s, e, n)) = inr (s, e, f s n)

-- the items seen are the net regions; so they are the same as any other account of them
pub seen_net : (m : Model) → Legal m → NetRegions m (Seen m)
seen_net m l i = routes_net (λ r s e. (crosses_members m i r s l e).1)

-- a bundle is installed in a region of the graph
pub place_member : (m : Model) → Legal m → (l r : ℕ) → place_of m.bundles l ≡ Some r → member r m.regions ≡ true
place_member m h l r = go m.bundles h.bundles_legal.each
  where
    go : (bs : List Bundle) → All (LegalBundle m.regions) bs → place_of bs l ≡ Some r → member r m.regions ≡ true
    go [] a e = let z : ◌≡◌ {A = ℕ} 0 1 = cc in absurd (omega arith)
    go (b ∷ bs) a e = step (at_location l b) (go bs a.1) e
      where
        step : (t : Bool) → (place_of bs l ≡ Some r → member r m.regions ≡ true) → pick t (Some b.region) (place_of bs l) ≡ Some r
            → member r m.regions ≡ true
        step true f k = let q : b.region ≡ r = cc in subst (λ (x : ℕ). member x m.regions ≡ true) q a.0.region
        step false f k = f k

-- G7: regions 3 and 4, a bundle in each, connected both ways, both passing service 77, which nobody publishes
abbrev cyclic : Model
cyclic = run nothing cycle

abbrev unpublished : Item
unpublished = item (kind_number Kind.Service) 77 0

-- that every region sees the service solves the equation, though no region has a route to it
pub all_see_solves : Solves cyclic.regions (PassesTo cyclic unpublished) (HeldAt cyclic unpublished) (λ r. Unit {0})
all_see_solves =
    record {
      opens = λ r h n.
          member_all (OwnOrPassed (PassesTo cyclic unpublished) (HeldAt cyclic unpublished) (λ r. Unit {0})) r cyclic.regions
          (inr (4, refl, tt), (inr (3, refl, tt), tt)) h;
      closes = λ r h j. tt;
    }

pub nobody_sees : (r : ℕ) → Seen cyclic unpublished r → ⊥
nobody_sees r n = go n.1
  where
    go : {r : ℕ} {p : List ℕ} → RouteFor cyclic unpublished r p → ⊥
    go (last h) = false_true (simp and-false at h)
    go (next e t) = go t
