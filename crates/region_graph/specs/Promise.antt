-- What the calls promise.
use Rattle.std.specs.Prelude.{◌≡◌, Bool, List, [], ◌∷◌, map, ℕ, get_or, Option, Some, None, Result}
use Rattle.region_graph.specs.Size.{regions}
use Rattle.region_graph.specs.Refusals.{not_refused, answer_number}
use Rattle.region_graph.specs.Lists.{pick, count_from}
use Rattle.region_graph.specs.Sets.{set_of}
use Rattle.region_graph.specs.Model.{Model, Package, PackageEntry, Bundle, Filter, Part, Connection, nothing}
use Rattle.region_graph.specs.Calls.{Call, number, after, at_location}
use Rattle.region_graph.specs.Items.{provides, holds, crosses}
use Rattle.region_graph.specs.Record.{Valid, meaning, no_bundle, no_connection}
use Rattle.region_graph.specs.declared.Graph.{Graph}
use Rattle.region_graph.specs.declared.refusals.Refusal.{Refusal}
use Rattle.region_graph.specs.declared.Item.{Item}

-- the record with nothing in it
pub record Empty (g : Graph) : Type 0 where
  pub valid : Valid g
  pub model : meaning g ≡ nothing

-- what a changing call leaves: the next graph, and 0 or the number of the question that was answered no
pub record Changed : Type 0 where
  pub graph : Graph
  pub number : ℕ

-- a call that gave an answer and left g
abbrev pub changed : {A : Type 0} → Result A Refusal → Graph → Changed
changed answer g = record { graph = g; number = answer_number answer }

-- a changing call on the record g gave r
pub record Follows (g : Graph) (c : Call) (r : Changed) : Type 0 where
  pub valid : Valid r.graph
  pub number : r.number ≡ number (meaning g) c
  pub next : meaning r.graph ≡ after (meaning g) c
  pub kept : (r.number ≡ not_refused → ⊥) → r.graph ≡ g

-- a part of a filter as a call is handed it: with the flag "all" the list is no part of it
abbrev pub new_part : {A : Type 0} → Bool → List A → Part A
new_part all xs = pick all Part.everything (Part.listed xs)

-- the bundle and the connection that a call is handed
abbrev pub new_bundle : ℕ → ℕ → List Package → List ℕ → Bundle
new_bundle region location exported services =
    record { location = location; region = region; packages = exported; services = services }

abbrev pub new_filter : List ℕ → Bool → List PackageEntry → Bool → List ℕ → Filter
new_filter bundles all-packages listed all-services services =
    record { bundles = bundles; packages = new_part all-packages listed; services = new_part all-services services }

abbrev pub new_connection : ℕ → ℕ → List ℕ → Bool → List PackageEntry → Bool → List ℕ → Connection
new_connection source target bundles all-packages listed all-services services =
    record { source = source; target = target; filter = new_filter bundles all-packages listed all-services services }

-- the region in which a location is installed, if any
abbrev pub place_of : List Bundle → ℕ → Option ℕ
place_of [] l = None
place_of (b ∷ bs) l = pick (at_location l b) (Some b.region) (place_of bs l)

-- the same, if the bundle there provides the item
abbrev pub provider_place : List Bundle → ℕ → Item → Option ℕ
provider_place [] l i = None
provider_place (b ∷ bs) l i = pick (at_location l b) (pick (provides i b) (Some b.region) None) (provider_place bs l i)

-- the set of the regions that hold the item, and for each region the set of those from which a connection that passes the item leads to it
abbrev pub holder_set : Model → Item → ℕ
holder_set m i = set_of (holds m i)

unfoldable pub predecessor_sets : Model → Item → List ℕ
predecessor_sets m i = map (λ s. set_of (λ r. crosses m i r s)) (count_from 0 regions)

-- the i-th bundle and connection in ascending order; past the count, the one that has nothing
abbrev pub bundle_at : Model → ℕ → Bundle
bundle_at m i = get_or m.bundles i no_bundle

abbrev pub connection_at : Model → ℕ → Connection
connection_at m i = get_or m.connections i no_connection
