-- What the private functions of the listing promise of collections of numbers with versions, and of what is counted in them.
use Rattle.std.specs.Prelude.{◌≡◌, List, ℕ, ◌+◌, ◌*◌, ◌≤◌, ◌<◌, length, get_or, take}
use Rattle.region_graph.specs.Size.{regions, most_bundles, most_provided}
use Rattle.region_graph.specs.Sets.{bit}
use Rattle.region_graph.specs.Model.{Model, Package, packages}
use Rattle.region_routes.specs.declared.Kind.{Kind}
use Rattle.region_listing.specs.Listing.{seen_from}
use Rattle.region_listing.specs.declared.collection.Collection.{Collection}

-- the places for different items of one kind: as many as the bundles can hold
abbrev pub most_different : ℕ
most_different = most_bundles * most_provided

-- what a collection has
unfoldable pub items_in : Collection → List Package
items_in d = packages (take d.count d.numbers) (take d.count d.versions)

pub record Collected (d : Collection) (ps : List Package) : Type 0 where
  pub count : d.count ≤ most_different
  pub numbers_size : length d.numbers ≡ most_different
  pub versions_size : length d.versions ≡ most_different
  pub those : items_in d ≡ ps

-- a count for each region, none above the places for items
pub record CountsFit (counts : List ℕ) : Type 0 where
  pub size : length counts ≡ regions
  pub few : (r : ℕ) → r < regions → get_or counts r 0 ≤ most_different

-- each member of the set is counted once more
pub record CountedOnce (counts : List ℕ) (set : ℕ) (next : List ℕ) : Type 0 where
  pub size : length next ≡ regions
  pub each : (r : ℕ) → r < regions → get_or next r 0 ≡ get_or counts r 0 + bit set r

-- for each region how many different items of a kind it sees
pub record Counted (m : Model) (k : Kind) (counts : List ℕ) : Type 0 where
  pub size : length counts ≡ regions
  pub each : (r : ℕ) → r < regions → get_or counts r 0 ≡ seen_from m k r
