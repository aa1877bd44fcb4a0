-- What the functions of the record ask of its parts, and what those that leave out elements or put one in promise.
use Rattle.std.specs.Prelude.{◌≡◌, Bool, true, false, List, ◌∷◌, ◌++◌, ℕ, ◌+◌, ◌-◌, ◌≤◌, length, take, drop, replicate, filter}
use Rattle.std.specs.List.Sorted.{IsPartitionedBy, IsPartitionPoint}
use Rattle.region_graph.specs.Size.{most_bundles, most_connections, most_listed, most_provided}
use Rattle.region_graph.specs.Lists.{All}
use Rattle.region_graph.specs.Model.{Bundle, Part, Connection}
use Rattle.region_graph.specs.Record.{Stored, Numbers, Provided, store_numbers, numbers_of, store_provided, provided_of, store_part, part_in}
use Rattle.region_graph.specs.Record.{store_packages, packages_of, store_entries, entries_of, store_package_part, package_part_in}
use Rattle.region_graph.specs.Record.{store_bundle, bundle_in, store_bundles, bundles_of}
use Rattle.region_graph.specs.Record.{store_connection, connection_in, store_connections, connections_of}
use Rattle.region_graph.specs.declared.packages.Packages.{Packages}
use Rattle.region_graph.specs.declared.packages.Entries.{Entries}
use Rattle.region_graph.specs.declared.bundles.StoredBundle.{StoredBundle}
use Rattle.region_graph.specs.declared.bundles.Bundles.{Bundles}
use Rattle.region_graph.specs.declared.connections.StoredConnection.{StoredConnection}
use Rattle.region_graph.specs.declared.connections.Connections.{Connections}

-- the places in which a list was put: it stands first, and each other place is as it was
abbrev pub put_into : List ℕ → List ℕ → List ℕ
put_into places xs = xs ++ drop (length xs) places

-- a list that so many places take
abbrev pub Short : {A : Type 0} → ℕ → List A → Type 0
Short most xs = length xs ≤ most

abbrev pub ShortPart : {A : Type 0} → Part A → Type 0
ShortPart (Part.listed xs) = Short most_listed xs
ShortPart Part.everything = Unit {0}

pub record ShortBundle (b : Bundle) : Type 0 where
  pub packages : Short most_provided b.packages
  pub services : Short most_provided b.services

pub record ShortConnection (c : Connection) : Type 0 where
  pub bundles : Short most_listed c.filter.bundles
  pub packages : ShortPart c.filter.packages
  pub services : ShortPart c.filter.services

-- a row of at most so many values
pub record AtMost {A : Type 0} (most : ℕ) (Good : A → Type 0) (xs : List A) : Type 0 where
  pub few : length xs ≤ most
  pub each : All Good xs

abbrev pub NumbersStored : Numbers → Type 0
NumbersStored n = Stored store_numbers numbers_of (Short most_listed) n

abbrev pub ProvidedStored : Provided → Type 0
ProvidedStored n = Stored store_provided provided_of (Short most_provided) n

abbrev pub PackagesStored : Packages → Type 0
PackagesStored p = Stored store_packages packages_of (Short most_provided) p

abbrev pub EntriesStored : Entries → Type 0
EntriesStored e = Stored store_entries entries_of (Short most_listed) e

abbrev pub PackagePartStored : Entries → Type 0
PackagePartStored e = Stored store_package_part package_part_in ShortPart e

abbrev pub PartStored : Numbers → Type 0
PartStored p = Stored store_part part_in ShortPart p

abbrev pub BundleStored : StoredBundle → Type 0
BundleStored b = Stored store_bundle bundle_in ShortBundle b

abbrev pub ConnectionStored : StoredConnection → Type 0
ConnectionStored c = Stored store_connection connection_in ShortConnection c

abbrev pub BundlesStored : Bundles → Type 0
BundlesStored bs = Stored store_bundles bundles_of (AtMost most_bundles ShortBundle) bs

abbrev pub ConnectionsStored : Connections → Type 0
ConnectionsStored cs = Stored store_connections connections_of (AtMost most_connections ShortConnection) cs

-- what answers a test answers p
abbrev pub Tests : {A : Type 0} → (A → Bool → Type 0) → (A → Bool) → Type 0
Tests {A} Answers p = (x : A) (b : Bool) → Answers x b → b ≡ p x

-- of the first `count` places those that pass are kept, the places that they leave hold `blank`, and the others are as they were
abbrev pub Retained : {A : Type 0} → (A → Bool) → List A → ℕ → A → ℕ → List A → Type 0
Retained p old count blank kept new =
    (kept ≡ length (filter p (take count old)))
    × (new ≡ filter p (take count old) ++ (replicate (count - kept) blank ++ drop count old))

-- an item stands behind those of the first `count` places that come before it, where these stand first; one place behind them is given up
abbrev pub Inserted : {A : Type 0} → (A → Bool) → List A → ℕ → A → List A → Type 0
Inserted p old count item new =
    IsPartitionedBy p (take count old)
    → (at : ℕ) × (at ≤ count) × IsPartitionPoint (λ x. p x ≡ true) (λ x. p x ≡ false) (take count old) at
    × (new ≡ take at old ++ (item ∷ (drop at (take count old) ++ drop (count + 1) old)))
