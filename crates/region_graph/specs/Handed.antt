-- What a caller hands in as lists that travel together: the packages, entries, parts, bundle and connection that they are.
use Rattle.std.specs.Prelude.{List, ℕ}
use denote.Ref.{Bor}
use Rattle.region_graph.specs.Model.{Package, PackageEntry, packages, entries, Part, Bundle, Filter, Connection}
use Rattle.region_graph.specs.declared.packages.PackageList.{PackageList}
use Rattle.region_graph.specs.declared.packages.EntryList.{EntryList}
use Rattle.region_graph.specs.declared.packages.PartList.{PartList}
use Rattle.region_graph.specs.declared.bundles.BundleLists.{BundleLists}
use Rattle.region_graph.specs.declared.connections.FilterLists.{FilterLists}

abbrev pub package_list : PackageList → List Package
package_list p = packages p.numbers.now p.versions.now

abbrev pub entry_list : EntryList → List PackageEntry
entry_list e = entries e.numbers.now e.lowest.now e.highest.now

-- a part of a filter, by what each listed value stands for
abbrev pub handed_part : {A B : Type 0} → (A → List B) → PartList A → Part B
handed_part list PartList.Everything = Part.everything
handed_part list (PartList.Listed a) = Part.listed (list a)

abbrev pub entry_part : PartList EntryList → Part PackageEntry
entry_part p = handed_part entry_list p

abbrev pub number_part : PartList (Bor (List ℕ)) → Part ℕ
number_part p = handed_part (λ s. s.now) p

-- the bundle and the connection that a call is handed
abbrev pub handed_bundle : ℕ → ℕ → BundleLists → Bundle
handed_bundle region location b =
    record { location = location; region = region; packages = package_list b.packages; services = b.services.now }

abbrev pub filter_lists : FilterLists → Filter
filter_lists f = record { bundles = f.bundles.now; packages = entry_part f.packages; services = number_part f.services }

abbrev pub handed_connection : ℕ → ℕ → FilterLists → Connection
handed_connection source target f = record { source = source; target = target; filter = filter_lists f }
