-- The engine's record: the one record that stores a model, and the model that a record means.
use Rattle.std.specs.Prelude.{◌≡◌, List, [], ◌++◌, map, ℕ, ◌-◌, eqb, length, take, replicate}
use Rattle.region_graph.specs.Size.{most_bundles, most_connections, most_listed, most_provided, everything_sign}
use Rattle.region_graph.specs.Lists.{pick, member}
use Rattle.region_graph.specs.Sets.{set_of, members}
use Rattle.region_graph.specs.Model.{Model, Package, PackageEntry, packages, entries, Bundle, Part, Connection, Legal}
use Rattle.region_graph.specs.declared.Graph.{Graph}
pub use Rattle.region_graph.specs.declared.numbers.Numbers.{Numbers}
pub use Rattle.region_graph.specs.declared.numbers.Provided.{Provided}
use Rattle.region_graph.specs.declared.packages.Packages.{Packages}
use Rattle.region_graph.specs.declared.packages.Entries.{Entries}
use Rattle.region_graph.specs.declared.bundles.StoredBundle.{StoredBundle}
use Rattle.region_graph.specs.declared.bundles.Bundles.{Bundles}
use Rattle.region_graph.specs.declared.connections.StoredConnection.{StoredConnection}
use Rattle.region_graph.specs.declared.connections.Connections.{Connections}

-- the places of an array: the stored elements first, and in each other place the value `none`
abbrev pub places : {A B : Type 0} → (A → B) → B → ℕ → List A → List B
places store none size xs = map store xs ++ replicate (size - length xs) none

-- a list of numbers, in as many places as the array has
abbrev pub number_places : ℕ → List ℕ → List ℕ
number_places size xs = places (λ x. x) 0 size xs

unfoldable pub store_numbers : List ℕ → Numbers
store_numbers xs = record { count = length xs; items = number_places most_listed xs }

unfoldable pub store_provided : List ℕ → Provided
store_provided xs = record { count = length xs; items = number_places most_provided xs }

-- packages and entries in columns
unfoldable pub store_packages : List Package → Packages
store_packages ps =
    record {
      count = length ps;
      numbers = places (λ p. p.number) 0 most_provided ps;
      versions = places (λ p. p.version) 0 most_provided ps;
    }

unfoldable pub store_entries : List PackageEntry → Entries
store_entries es =
    record {
      count = length es;
      numbers = places (λ e. e.number) 0 most_listed es;
      lowest = places (λ e. e.lowest) 0 most_listed es;
      highest = places (λ e. e.highest) 0 most_listed es;
    }

-- a part that is everything has the sign for its count, and no numbers
abbrev pub store_part : Part ℕ → Numbers
store_part (Part.listed xs) = store_numbers xs
store_part Part.everything = record { count = everything_sign; items = number_places most_listed [] }

abbrev pub store_package_part : Part PackageEntry → Entries
store_package_part (Part.listed es) = store_entries es
store_package_part Part.everything =
    record { count = everything_sign; numbers = number_places most_listed []; lowest = number_places most_listed []; highest = number_places most_listed [] }

abbrev pub store_bundle : Bundle → StoredBundle
store_bundle b =
    record { location = b.location; region = b.region; packages = store_packages b.packages; services = store_provided b.services }

abbrev pub store_connection : Connection → StoredConnection
store_connection c =
    record {
      source = c.source;
      target = c.target;
      bundles = store_numbers c.filter.bundles;
      packages = store_package_part c.filter.packages;
      services = store_part c.filter.services;
    }

-- what stands in a place that is not used
abbrev pub no_bundle : Bundle
no_bundle = record { location = 0; region = 0; packages = []; services = [] }

abbrev pub no_connection : Connection
no_connection = record { source = 0; target = 0; filter = record { bundles = []; packages = Part.listed []; services = Part.listed [] } }

unfoldable pub store_bundles : List Bundle → Bundles
store_bundles bs = record { count = length bs; items = places store_bundle (store_bundle no_bundle) most_bundles bs }

unfoldable pub store_connections : List Connection → Connections
store_connections cs =
    record { count = length cs; items = places store_connection (store_connection no_connection) most_connections cs }

unfoldable pub store : Model → Graph
store m =
    record {
      regions = set_of (λ r. member r m.regions);
      bundles = store_bundles m.bundles;
      connections = store_connections m.connections;
    }

-- what is stored
unfoldable pub numbers_of : Numbers → List ℕ
numbers_of n = take n.count n.items

unfoldable pub provided_of : Provided → List ℕ
provided_of n = take n.count n.items

unfoldable pub packages_of : Packages → List Package
packages_of p = packages (take p.count p.numbers) (take p.count p.versions)

unfoldable pub entries_of : Entries → List PackageEntry
entries_of e = entries (take e.count e.numbers) (take e.count e.lowest) (take e.count e.highest)

abbrev pub package_part_in : Entries → Part PackageEntry
package_part_in e = pick (eqb e.count everything_sign) Part.everything (Part.listed (entries_of e))

abbrev pub part_in : Numbers → Part ℕ
part_in n = pick (eqb n.count everything_sign) Part.everything (Part.listed (numbers_of n))

abbrev pub bundle_in : StoredBundle → Bundle
bundle_in b =
    record { location = b.location; region = b.region; packages = packages_of b.packages; services = provided_of b.services }

abbrev pub connection_in : StoredConnection → Connection
connection_in c =
    record {
      source = c.source;
      target = c.target;
      filter = record { bundles = numbers_of c.bundles; packages = package_part_in c.packages; services = part_in c.services };
    }

unfoldable pub bundles_of : Bundles → List Bundle
bundles_of bs = map bundle_in (take bs.count bs.items)

unfoldable pub connections_of : Connections → List Connection
connections_of cs = map connection_in (take cs.count cs.items)

unfoldable pub meaning : Graph → Model
meaning g = record { regions = members g.regions; bundles = bundles_of g.bundles; connections = connections_of g.connections }

-- b stores, in the one way, the good value that it means
pub record Stored {A B : Type 0} (store : A → B) (means : B → A) (Good : A → Type 0) (b : B) : Type 0 where
  pub stored : b ≡ store (means b)
  pub good : Good (means b)

-- the records that the empty one, a changing call and the reader give
abbrev pub Valid : Graph → Type 0
Valid g = Stored store meaning Legal g
