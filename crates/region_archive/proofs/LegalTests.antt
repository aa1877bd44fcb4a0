-- Legality is told by a test.
use mathlib.Core.Bool.{Bool}
use mathlib.Core.List.{List}
use Prim.Native.Nat.{ℕ, ◌<◌, ◌^◌}
use lib.Dec.{ltb, eqb}
use Rattle.region_graph.specs.Size.{regions, most_bundles, most_connections, most_provided, most_listed}
use Rattle.region_graph.specs.Lists.{member}
use Rattle.region_graph.specs.Model.{Model, Package, PackageEntry, Bundle, Filter, Part, Connection, package_before, entry_before, ordered}
use Rattle.region_graph.specs.Model.{bundle_before, connection_before, Word, PackageFits, EntryFits, LegalEntry, Numbered, SortedPart}
use Rattle.region_graph.specs.Model.{LegalBundle, LegalFilter, LegalConnection, Legal}
use Rattle.big_endian.proofs.Tested.{Tested, tested_none, tested_true, tested_false, tested_lt, tested_both, tested_as, tested_sorted}
use Rattle.region_archive.specs.Image.{in_version}
use Rattle.region_archive.specs.Sections.{LegalIn}

-- for each part of a model
unfoldable pub tested_numbered : (most : ℕ) (xs : List ℕ) → Tested (Numbered most xs)
tested_numbered = tested_sorted ltb Word (λ n. tested_lt n (2 ^ 32))

unfoldable pub tested_package : (p : Package) → Tested (PackageFits p)
tested_package p =
    tested_as (λ t. record { number = t.0; version = t.1 }) (λ h. (h.number, h.version))
    (tested_both (tested_lt p.number (2 ^ 32)) (tested_lt p.version (2 ^ 16)))

unfoldable pub tested_fits : (e : PackageEntry) → Tested (EntryFits e)
tested_fits e =
    tested_as (λ t. record { number = t.0; lowest = t.1.0; highest = t.1.1 }) (λ h. (h.number, (h.lowest, h.highest)))
    (tested_both (tested_lt e.number (2 ^ 32)) (tested_both (tested_lt e.lowest (2 ^ 16)) (tested_lt e.highest (2 ^ 16))))

unfoldable pub tested_entry : (e : PackageEntry) → Tested (LegalEntry e)
tested_entry e =
    tested_as (λ t. record { fits = t.0; order = t.1 }) (λ h. (h.fits, h.order)) (tested_both (tested_fits e) (tested_true (ordered e)))

unfoldable pub tested_part : {A : Type 0} (before : A → A → Bool) (Good : A → Type 0) → ((x : A) → Tested (Good x)) → (p : Part A)
    → Tested (SortedPart before Good p)
tested_part before Good f (Part.listed xs) = tested_sorted before Good f most_listed xs
tested_part before Good f Part.everything = tested_none

unfoldable pub tested_bundle : (rs : List ℕ) (b : Bundle) → Tested (LegalBundle rs b)
tested_bundle rs b =
    tested_as (λ t. record { location = t.0; region = t.1.0; packages = t.1.1.0; services = t.1.1.1 })
    (λ h. (h.location, (h.region, (h.packages, h.services))))
    (tested_both (tested_lt b.location (2 ^ 32))
    (tested_both (tested_true (member b.region rs))
    (tested_both (tested_sorted package_before PackageFits tested_package most_provided b.packages) (tested_numbered most_provided b.services))))

unfoldable pub tested_filter : (f : Filter) → Tested (LegalFilter f)
tested_filter f =
    tested_as (λ t. record { bundles = t.0; packages = t.1.0; services = t.1.1 }) (λ h. (h.bundles, (h.packages, h.services)))
    (tested_both (tested_numbered most_listed f.bundles)
    (tested_both (tested_part entry_before LegalEntry tested_entry f.packages) (tested_part ltb Word (λ n. tested_lt n (2 ^ 32)) f.services)))

unfoldable pub tested_connection : (rs : List ℕ) (c : Connection) → Tested (LegalConnection rs c)
tested_connection rs c =
    tested_as (λ t. record { source = t.0; target = t.1.0; differ = t.1.1.0; filter = t.1.1.1 })
    (λ h. (h.source, (h.target, (h.differ, h.filter))))
    (tested_both (tested_true (member c.source rs))
    (tested_both (tested_true (member c.target rs)) (tested_both (tested_false (eqb c.source c.target)) (tested_filter c.filter))))

-- whether a model is legal
unfoldable pub tested_legal : (m : Model) → Tested (Legal m)
tested_legal m =
    tested_as (λ t. record { regions_legal = t.0; bundles_legal = t.1.0; connections_legal = t.1.1 })
    (λ h. (h.regions_legal, (h.bundles_legal, h.connections_legal)))
    (tested_both (tested_sorted ltb (λ r. r < regions) (λ r. tested_lt r regions) regions m.regions)
    (tested_both (tested_sorted bundle_before (LegalBundle m.regions) (tested_bundle m.regions) most_bundles m.bundles)
    (tested_sorted connection_before (LegalConnection m.regions) (tested_connection m.regions) most_connections m.connections)))

-- and whether it has an image of a version too
unfoldable pub tested_in : (v : ℕ) (m : Model) → Tested (LegalIn v m)
tested_in v m = tested_both (tested_legal m) (tested_true (in_version v m))
