-- Demand 3's words on the queries: what the route call, the finds, the events and resolve must say of the routes of a model.
use Rattle.std.specs.Prelude.{◌≡◌, Bool, true, ◌&&◌, List, [], ◌∷◌, ℕ, suc, length, Some}
use Rattle.region_graph.specs.Lists.{exists}
use Rattle.region_graph.specs.Model.{Model}
use Rattle.region_graph.specs.Calls.{at_location}
use Rattle.region_graph.specs.Items.{provides}
use Rattle.region_graph.specs.Promise.{place_of}
use Rattle.region_graph.specs.declared.Item.{Item}
use Rattle.region_routes.specs.Route.{Route}
use Rattle.region_routes.specs.Chosen.{PassesTo, HeldAt, RouteFor, NoRouteFor, BestFor}
use Rattle.region_routes.specs.Hooks.{written, Routed, Hidden, Count, Kept, Wrote}
use Rattle.region_routes.specs.declared.resolver.Candidate.{Candidate}
use Rattle.region_routes.specs.Resolve.{parts, package_of, written_each}
use Rattle.region_archive.specs.Promise.{seen_number, hidden_number}

-- ys are exactly those of xs of which P holds, in the order given, repetitions kept
pub data Selected {X : Type 0} (P : X → Type 0) : List X → List X → Type 0 where
  none : Selected P [] []
  kept : {x : X} {xs ys : List X} → P x → Selected P xs ys → Selected P (x ∷ xs) (x ∷ ys)
  left : {x : X} {xs ys : List X} → (P x → ⊥) → Selected P xs ys → Selected P (x ∷ xs) ys

-- some route lets the item through to the region
abbrev pub Seen : Model → Item → ℕ → Type 0
Seen m i r = (p : List ℕ) × RouteFor m i r p

-- the bundle at the exporter's location exports the package
abbrev pub exports : Model → Candidate → Bool
exports m c = exists (λ b. at_location c.exporter b && provides (package_of c) b) m.bundles

-- a route for the item that ends in region t
abbrev pub RouteTo : Model → Item → ℕ → ℕ → List ℕ → Type 0
RouteTo m i t = Route (PassesTo m i) (λ s. HeldAt m i s × (s ≡ t))

-- document 02, C-14: the exporter is installed, exports the package, and region r has a route for the package that ends in its region
pub record Offered (m : Model) (c : Candidate) (r : ℕ) : Type 0 where
  pub home : ℕ
  pub stands : place_of m.bundles c.exporter ≡ Some home
  pub has_it : exports m c ≡ true
  pub path : List ℕ
  pub route : RouteTo m (package_of c) home r path

-- hidden exactly when there is no route; else the best one is written and its count of connections returned
pub data RouteSays (m : Model) (i : Item) (r : ℕ) (entry exit : List ℕ) : Routed → Type 0 where
  says_hidden : NoRouteFor m i r → exit ≡ entry → RouteSays m i r entry exit Hidden
  says_route : {n : ℕ} (p : List ℕ) → BestFor m i r p → length p ≡ suc n → exit ≡ written p entry → RouteSays m i r entry exit (Count n)

-- exactly those of which P holds are written, and their count is returned; `put` writes elements into what was lent
pub record KeptSays {X E : Type 0} (put : List X → E → E) (P : X → Type 0) (xs : List X) (entry exit : E) (answer : Kept) : Type 0 where
  pub those : List X
  pub selected : Selected P xs those
  pub count : answer ≡ Wrote (length those)
  pub exit_is : exit ≡ put those entry

-- each part of candidates in its output list
abbrev pub written_parts : List Candidate → List (List ℕ) → List (List ℕ)
written_parts cs entries = written_each (parts cs) entries

-- P holds of the region in which the bundle at a location is installed
abbrev pub InstalledWhere : Model → ℕ → (ℕ → Type 0) → Type 0
InstalledWhere m l P = (r : ℕ) × (place_of m.bundles l ≡ Some r) × P r

-- an archive query returns 100 where there is a route from the bundle's region, and 101 where there is none
pub data QuerySays (m : Model) (i : Item) (r : ℕ) : ℕ → Type 0 where
  says_seen : Seen m i r → QuerySays m i r seen_number
  says_unseen : NoRouteFor m i r → QuerySays m i r hidden_number
