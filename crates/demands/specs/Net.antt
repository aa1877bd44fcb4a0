-- 001, section 7: the equation of the net regions, for one item at a time, and its least solution. `E r s` says that a connection from r to s
-- passes the item, `H r` that r has it of its own.
use Rattle.std.specs.Prelude.{◌≡◌, true, ◌⊎◌, List, ℕ, Some}
use Rattle.region_graph.specs.Lists.{member}
use Rattle.region_graph.specs.Model.{Model}
use Rattle.region_graph.specs.Promise.{place_of}
use Rattle.region_graph.specs.declared.Item.{Item}
use Rattle.region_routes.specs.Chosen.{PassesTo, HeldAt}
use Rattle.region_routes.specs.declared.resolver.Candidate.{Candidate}
use Rattle.region_routes.specs.Resolve.{package_of}
use Rattle.demands.specs.Claim.{exports}

-- the item is in r's own region, or in the net region, filtered, of a region that r is connected to
abbrev pub OwnOrPassed : (ℕ → ℕ → Type 0) → (ℕ → Type 0) → (ℕ → Type 0) → ℕ → Type 0
OwnOrPassed E H N r = H r ⊎ ((s : ℕ) × E r s × N s)

-- N r, for each region r of the graph, that the item is in its net region: the equation, read both ways
pub record Solves (rs : List ℕ) (E : ℕ → ℕ → Type 0) (H N : ℕ → Type 0) : Type 0 where
  pub opens : (r : ℕ) → member r rs ≡ true → N r → OwnOrPassed E H N r
  pub closes : (r : ℕ) → member r rs ≡ true → OwnOrPassed E H N r → N r

-- the solution that every other contains
pub record LeastSolution (rs : List ℕ) (E : ℕ → ℕ → Type 0) (H N : ℕ → Type 0) : Type 1 where
  pub solves : Solves rs E H N
  pub least : (M : ℕ → Type 0) → Solves rs E H M → (r : ℕ) → member r rs ≡ true → N r → M r

-- `net i r`: the item i is in the net region of r
abbrev pub NetRegions : Model → (Item → ℕ → Type 0) → Type 1
NetRegions m net = (i : Item) → LeastSolution m.regions (PassesTo m i) (HeldAt m i) (net i)

-- section 1.5: r is the region containing the bundle that exports the candidate
abbrev pub ExportedIn : Model → Candidate → ℕ → Type 0
ExportedIn m c r = (place_of m.bundles c.exporter ≡ Some r) × (exports m c ≡ true)

-- `net c r`: the candidate is in the net region of r; only the exporter's region has the package of its own
abbrev pub ExporterNetRegions : Model → (Candidate → ℕ → Type 0) → Type 1
ExporterNetRegions m net = (c : Candidate) → LeastSolution m.regions (PassesTo m (package_of c)) (ExportedIn m c) (net c)
