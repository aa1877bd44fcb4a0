-- Legal models whose images are the longest: of all versions, and of the older ones.
use mathlib.Core.Path.{◌≡◌, refl}
use mathlib.Core.List.{map}
use Prim.Native.Nat.{ℕ, ◌+◌, ◌/◌, ◌%◌}
use mathlib.Core.Bool.{true}
use lib.ListN.{length}
use Rattle.region_graph.specs.Size.{regions, most_bundles, most_connections, most_provided, most_listed}
use Rattle.region_graph.specs.Lists.{count_from}
use Rattle.region_graph.specs.Model.{Model, Package, PackageEntry, Filter, Part, Legal}
use Rattle.big_endian.proofs.Tested.{tested_none, tested_true, tested_false, tested_le, tested_lt, tested_both, tested_as, tested_all, tested_sorted}
use Rattle.region_archive.specs.Image.{early_regions, older_version, image_in, image, older_image, unversioned}
use Rattle.region_archive.proofs.LegalTests.{tested_numbered, tested_package, tested_fits, tested_entry, tested_part, tested_bundle, tested_filter}
use Rattle.region_archive.proofs.LegalTests.{tested_connection, tested_legal}

-- so many regions, as many bundles and connections as there may be, and each of their lists as long as it may be
module _ (export : ℕ → Package) (entry : ℕ → PackageEntry) where
  pub longest : ℕ → Model
  longest count =
      let provided = count_from 0 most_provided in
      let listed = count_from 0 most_listed in
      record {
        regions = count_from 0 count;
        bundles = map (λ n. record { location = n; region = 0; packages = map export provided; services = provided }) (count_from 0 most_bundles);
        connections =
            let filter : Filter = record { bundles = listed; packages = Part.listed (map entry listed); services = Part.listed listed } in
            map (λ n. record { source = n / 4; target = 12 + n % 4; filter = filter }) (count_from 0 most_connections);
      }

-- with packages of version 1 and entries for the versions 1 to 2
pub versioned : Model
versioned = longest (λ n. record { number = n; version = 1 }) (λ n. record { number = n; lowest = 1; highest = 2 }) regions

-- with packages of version 0 and entries for every version, and so many regions
pub plain : ℕ → Model
plain count = longest (λ n. record { number = n; version = 0 }) (λ n. record { number = n; lowest = 0; highest = 65535 }) count

-- it is legal
pub longest_legal : Legal versioned
unfolding longest versioned tested_none tested_true tested_false tested_le tested_lt tested_both tested_as tested_all
    tested_sorted tested_numbered tested_package tested_fits tested_entry tested_part tested_bundle tested_filter tested_connection tested_legal
longest_legal = (tested_legal versioned).holds refl

-- and no legal image is longer (`image_bound`)
pub longest_image : length (image versioned) ≡ 18392
unfolding longest versioned image_in
longest_image = refl

-- so it is with version 0 and every version before version 3, and no image of those versions is longer (`older_bound`)
pub longest_older_legal : Legal (plain regions) × (unversioned (plain regions) ≡ true)
unfolding longest plain tested_none tested_true tested_false tested_le tested_lt tested_both tested_as tested_all
    tested_sorted tested_numbered tested_package tested_fits tested_entry tested_part tested_bundle tested_filter tested_connection tested_legal
longest_older_legal = ((tested_legal (plain regions)).holds refl, refl)

pub longest_older : length (older_image (plain regions)) ≡ 14296
unfolding longest plain image_in older_version
longest_older = refl

-- and with the regions of version 1, and no image of that version is longer (`early_bound`)
pub longest_early_legal : Legal (plain early_regions) × (unversioned (plain early_regions) ≡ true)
unfolding longest plain tested_none tested_true tested_false tested_le tested_lt tested_both tested_as tested_all
    tested_sorted tested_numbered tested_package tested_fits tested_entry tested_part tested_bundle tested_filter tested_connection tested_legal
longest_early_legal = ((tested_legal (plain early_regions)).holds refl, refl)

pub longest_early : (older_version (plain early_regions).regions ≡ 1) × (length (older_image (plain early_regions)) ≡ 14248)
unfolding longest plain image_in older_version
longest_early = (refl, refl)
