-- Request C-12: two graphs that agree on a set of regions. A set of regions is a test on their numbers.
use Rattle.std.specs.Prelude.{◌≡◌, Bool, true, List, ℕ}
use Rattle.region_graph.specs.Lists.{All, keep}
use Rattle.region_graph.specs.Model.{Model}
use Rattle.region_graph.specs.Record.{Valid, meaning}
use Rattle.region_graph.specs.declared.Graph.{Graph}
use Rattle.region_routes.specs.declared.resolver.Candidate.{Candidate}
use Rattle.region_routes.specs.declared.Kind.{Kind}
use Rattle.demands.specs.Claim.{InstalledWhere}
use Rattle.demands.specs.Interface.{RouteCalls, ListCalls, ResolveCalls}

-- of a model: the regions of the set, the bundles in them and the connections leaving them
abbrev pub restricted : (ℕ → Bool) → Model → Model
restricted inside m =
    record {
      regions = keep inside m.regions;
      bundles = keep (λ b. inside b.region) m.bundles;
      connections = keep (λ c. inside c.source) m.connections;
    }

-- no connection leads out of the set, whatever it passes
abbrev pub Closed : (ℕ → Bool) → Model → Type 0
Closed inside m = All (λ c. inside c.target ≡ true) (restricted inside m).connections

-- two models agree on the set; what is outside of it may differ in every way
pub record Agree (inside : ℕ → Bool) (m n : Model) : Type 0 where
  pub same : restricted inside m ≡ restricted inside n
  pub closed : Closed inside m

-- a bundle is installed at the location, in a region of the set
abbrev pub InstalledIn : (ℕ → Bool) → Model → ℕ → Type 0
InstalledIn inside m l = InstalledWhere m l (λ r. inside r ≡ true)

-- The same query of bundles of the set, put to g and to h with equal buffers, is answered alike and leaves equal buffers, in every place and
-- also where it is refused. That a bundle is installed in the set is asked of g alone, and of the exporters of candidates nothing is asked.
pub record SameAnswers {R K : Type 0} (route : RouteCalls R) (find event : ListCalls K) (resolve : ResolveCalls K) (inside : ℕ → Bool)
    (g h : Graph) : Type 0 where
  pub routes : {l kind number version : ℕ} {entry exit exit' : List ℕ} {a b : R} → InstalledIn inside (meaning g) l
      → route g l kind number version entry a exit → route h l kind number version entry b exit' → (a ≡ b) × (exit ≡ exit')
  pub finds : {k : Kind} {l : ℕ} {xs entry exit exit' : List ℕ} {a b : K} → InstalledIn inside (meaning g) l
      → find g k l xs entry a exit → find h k l xs entry b exit' → (a ≡ b) × (exit ≡ exit')
  pub events : {k : Kind} {number : ℕ} {xs entry exit exit' : List ℕ} {a b : K} → All (InstalledIn inside (meaning g)) xs
      → event g k number xs entry a exit → event h k number xs entry b exit' → (a ≡ b) × (exit ≡ exit')
  pub resolves : {l : ℕ} {xs : List Candidate} {entries exits exits' : List (List ℕ)} {a b : K} → InstalledIn inside (meaning g) l
      → resolve g l xs entries a exits → resolve h l xs entries b exits' → (a ≡ b) × (exits ≡ exits')

-- so it is for every set, and every two valid records whose models agree on it
abbrev pub Isolated : {R K : Type 0} → RouteCalls R → ListCalls K → ListCalls K → ResolveCalls K → Type 0
Isolated route find event resolve =
    (inside : ℕ → Bool) (g h : Graph) → Valid g → Valid h → Agree inside (meaning g) (meaning h) → SameAnswers route find event resolve inside g h
