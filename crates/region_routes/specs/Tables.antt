-- What the functions on tables promise each other. A table has the items of one kind as plain numbers, so that it is lent and not copied.
use Rattle.std.specs.Prelude.{Option, Some, None}
use Rattle.std.specs.Prelude.{◌≡◌, Bool, true, false, ◌&&◌, ◌||◌, List, [], ◌∷◌, map, ℕ, zero, suc, ◌+◌, ◌*◌, ◌/◌, ◌%◌, ◌^◌, ◌≤◌, eqb, leb, length}
use Rattle.region_graph.specs.Size.{regions, most_connections, most_listed}
use Rattle.region_graph.specs.Lists.{pick, exists, concat_map, count_from}
use Rattle.region_graph.specs.Sets.{has, set_of}
use Rattle.region_graph.specs.Model.{Model, PackageEntry, Bundle, Filter, Part, Connection, Legal}
use Rattle.region_routes.specs.Hooks.{kind_number, is_installed}
use Rattle.region_routes.specs.Resolve.{Candidate}
use Rattle.region_routes.specs.declared.Kind.TheVariants as Kind

-- an entry: a number of an item with the place that it goes with, below `width`; the number `everything_number`, which no item has, stands for all
abbrev pub width : ℕ
width = 2 ^ 16

abbrev pub everything_number : ℕ
everything_number = 2 ^ 32

abbrev pub packed : ℕ → ℕ → ℕ
packed n place = n * width + place

abbrev pub number_in : ℕ → ℕ
number_in e = e / width

abbrev pub place_in : ℕ → ℕ
place_in e = e % width

-- the two ends of a connection as one place
abbrev pub ends : ℕ → ℕ → ℕ
ends source target = source * regions + target

abbrev pub source_in : ℕ → ℕ
source_in e = place_in e / regions

abbrev pub target_in : ℕ → ℕ
target_in e = place_in e % regions

-- the connections pass no more; the bundles bring no more
abbrev pub most_entries : ℕ
most_entries = most_connections * most_listed

-- the numbers that a bundle brings, of a kind
abbrev pub provided_numbers : ℕ → Bundle → List ℕ
provided_numbers zero b = b.location ∷ []
provided_numbers (suc zero) b = map (λ p. p.number) b.packages
provided_numbers (suc (suc zero)) b = b.services
provided_numbers (suc (suc (suc k))) b = []

-- the numbers of a package part, and of a filter's part of a kind
abbrev pub listed_numbers : Part PackageEntry → Part ℕ
listed_numbers (Part.listed es) = Part.listed (map (λ e. e.number) es)
listed_numbers Part.everything = Part.everything

abbrev pub part_numbers : ℕ → Filter → Part ℕ
part_numbers zero f = Part.listed f.bundles
part_numbers (suc zero) f = listed_numbers f.packages
part_numbers (suc (suc zero)) f = f.services
part_numbers (suc (suc (suc k))) f = Part.listed []

-- what a part passes
abbrev pub passed : Part ℕ → List ℕ
passed (Part.listed xs) = xs
passed Part.everything = everything_number ∷ []

-- what a bundle brings, of a kind, with its region; what a connection passes, of a kind, with its two ends
abbrev pub offer : ℕ → Bundle → List ℕ
offer kind b = map (λ n. packed n b.region) (provided_numbers kind b)

abbrev pub passage : ℕ → Connection → List ℕ
passage kind c = map (λ n. packed n (ends c.source c.target)) (passed (part_numbers kind c.filter))

-- the exporter of each package that a bundle brings: its location, with the package's version
abbrev pub owner : Bundle → List ℕ
owner b = map (λ p. packed b.location p.version) b.packages

-- the two versions of an entry as one number, and whether a version lies between them
abbrev pub version_span : PackageEntry → ℕ
version_span e = packed e.lowest e.highest

abbrev pub span_has : ℕ → ℕ → Bool
span_has v s = leb (s / width) v && leb v (s % width)

-- the spans of a package part; `everything` has no versions, and no version is asked of its number
abbrev pub part_spans : Part PackageEntry → List ℕ
part_spans (Part.listed es) = map version_span es
part_spans Part.everything = 0 ∷ []

-- the tables of a kind
abbrev pub offers : ℕ → List Bundle → List ℕ
offers kind bs = concat_map (offer kind) bs

abbrev pub passages : ℕ → List Connection → List ℕ
passages kind cs = concat_map (passage kind) cs

-- beside the table of the packages, at equal places, their exporters
abbrev pub owners : List Bundle → List ℕ
owners bs = concat_map owner bs

-- beside the table of what the connections pass of packages, at equal places, the spans
abbrev pub passage_spans : Connection → List ℕ
passage_spans c = part_spans c.filter.packages

abbrev pub spans : List Connection → List ℕ
spans cs = concat_map passage_spans cs

-- the regions that the entries of a number name, and whether one of them goes from region r to region s
abbrev pub held_in : List ℕ → ℕ → ℕ
held_in es n = set_of (λ r. exists (λ e. eqb (place_in e) r && eqb (number_in e) n) es)

abbrev pub step_in : List ℕ → ℕ → ℕ → ℕ → Bool
step_in es n r s = exists (λ e. (eqb (source_in e) r && eqb (target_in e) s) && eqb (number_in e) n) es

abbrev pub step_or : (ℕ → ℕ → Bool) → List ℕ → ℕ → ℕ → ℕ → Bool
step_or step es n r s = step r s || step_in es n r s

-- whether an entry of the number n, with a span beside it that has the version v, goes from region r to region s
abbrev pub step_between : List ℕ → List ℕ → ℕ → ℕ → ℕ → ℕ → Bool
step_between [] ss n v r s = false
step_between (e ∷ es) [] n v r s = false
step_between (e ∷ es) (x ∷ ss) n v r s =
    ((eqb (source_in e) r && eqb (target_in e) s) && (eqb (number_in e) n && span_has v x)) || step_between es ss n v r s

abbrev pub step_or_between : (ℕ → ℕ → Bool) → List ℕ → List ℕ → ℕ → ℕ → ℕ → ℕ → Bool
step_or_between step es ss n v r s = step r s || step_between es ss n v r s

-- for each region the set of the regions from which a step goes to it
unfoldable pub predecessors_by : (ℕ → ℕ → Bool) → List ℕ
predecessors_by step = map (λ s. set_of (λ r. step r s)) (count_from 0 regions)

-- the place of the first entry that has the number
abbrev pub place_at : List ℕ → ℕ → Option ℕ
place_at [] l = None
place_at (e ∷ es) l = pick (eqb (number_in e) l) (Some (place_in e)) (place_at es l)

-- the place of the first entry that has the number n, and l beside it
abbrev pub place_beside : List ℕ → List ℕ → ℕ → ℕ → Option ℕ
place_beside [] ls l n = None
place_beside (e ∷ es) [] l n = None
place_beside (e ∷ es) (k ∷ ls) l n = pick (eqb (number_in e) n && eqb k l) (Some (place_in e)) (place_beside es ls l n)

-- whether a place is in a set
abbrev pub stands_in : ℕ → Option ℕ → Bool
stands_in set (Some r) = has set r
stands_in set None = false

-- each number has a place
abbrev pub all_placed : (ℕ → Option ℕ) → List ℕ → Bool
all_placed place [] = true
all_placed place (l ∷ ls) = is_installed (place l) && all_placed place ls

-- the tables are those of a model, for a kind
pub record Tables (m : Model) (kind : ℕ) (offered passing : List ℕ) : Type 0 where
  pub legal : Legal m
  pub offered_is : offered ≡ offers kind m.bundles
  pub passing_is : passing ≡ passages kind m.connections

-- of a kind whose items differ by their numbers alone
pub record NumberTables (m : Model) (kind : ℕ) (offered passing : List ℕ) : Type 0 where
  pub tables : Tables m kind offered passing
  pub by_number : eqb kind (kind_number Kind.Package) ≡ false

-- the tables of the packages: beside them, at equal places, their exporters, and the spans of what passes
pub record ExportTables (m : Model) (exported owned passing spanned : List ℕ) : Type 0 where
  pub tables : Tables m (kind_number Kind.Package) exported passing
  pub owned_is : owned ≡ owners m.bundles
  pub spanned_is : spanned ≡ spans m.connections

-- each of three output lists has a place for each candidate
abbrev pub Room : List Candidate → List ℕ → List ℕ → List ℕ → Type 0
Room cs es ns vs = (length cs ≤ length es) × ((length cs ≤ length ns) × (length cs ≤ length vs))
