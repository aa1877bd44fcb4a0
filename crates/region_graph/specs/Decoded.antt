-- What the functions that make a graph of flat lists promise of each piece. Only private functions cite it.
use Rattle.std.specs.Prelude.{◌≡◌, Bool, List, ◌++◌, map, ℕ, ◌<◌, ◌≤◌, ◌/◌, ◌%◌, ◌^◌, ltb, length, drop, Option, Some, None}
use Rattle.std.specs.Bool.{then_some}
use Rattle.region_graph.specs.Size.{regions, most_listed, most_provided, everything_sign}
use Rattle.region_graph.specs.Lists.{every}
use Rattle.region_graph.specs.Model.{Bundle, Part, Connection, package_before, entry_before, bundle_before, connection_before}
use Rattle.region_graph.specs.Model.{Word, PackageFits, LegalEntry, Numbered, Sorted, SortedPart, LegalBundle, LegalConnection}
use Rattle.region_graph.specs.Record.{store_packages, store_entries, store_package_part, store_bundle, store_connection}
use Rattle.region_graph.specs.Places.{put_into}
use Rattle.region_graph.specs.Flat.{package_code, entry_code, map_part, FlatPart, FlatFields, Flat}
use Rattle.region_graph.specs.Flat.{fields_of_bundle, fields_of_connection}
use Rattle.region_graph.specs.declared.packages.Packages.{Packages}
use Rattle.region_graph.specs.declared.packages.Entries.{Entries}
use Rattle.region_graph.specs.declared.bundles.StoredBundle.{StoredBundle}
use Rattle.region_graph.specs.declared.connections.StoredConnection.{StoredConnection}

module _ {A B : Type 0} where
  -- what stores a good value that has these numbers; none where no good value has them
  pub data Decoded (store : A → B) (Good Is : A → Type 0) (o : Option B) : Type 0 where
    found : (x : A) → Good x → Is x → o ≡ Some (store x) → Decoded store Good Is o
    none : ((x : A) → Good x → Is x → ⊥) → o ≡ None → Decoded store Good Is o

  -- such a value's count, and the places into which the value is put
  pub data Put (count : A → ℕ) (put : A → List B) (Good Is : A → Type 0) (o : Option ℕ) (new : List B) : Type 0 where
    found : (x : A) → Good x → Is x → o ≡ Some (count x) → new ≡ put x → Put count put Good Is o new
    none : ((x : A) → Good x → Is x → ⊥) → o ≡ None → Put count put Good Is o new

-- a number has 32 bits
abbrev pub is_word : ℕ → Bool
is_word n = ltb n (2 ^ 32)

-- what is left of a code without its part below the unit, and 16 bits of that
abbrev pub head_from : ℕ → ℕ → ℕ
head_from unit c = c / unit

abbrev pub tail_from : ℕ → ℕ → ℕ
tail_from unit c = c / unit % 65536

-- the heads of codes were put into the first places; none where one of them has more than 32 bits
pub record HeadsPut (unit : ℕ) (codes old : List ℕ) (o : Option (Unit {0})) (new : List ℕ) : Type 0 where
  pub fit : o ≡ then_some (every (λ c. is_word (head_from unit c)) codes) tt
  pub those : o ≡ Some tt → new ≡ put_into old (map (head_from unit) codes)

-- the numbers have a list at a place
abbrev pub FlatList : List ℕ → ℕ → List ℕ → Type 0
FlatList xs at ns = FlatPart xs at (Part.listed ns)

pub record CodesRead (row : List ℕ) (at most : ℕ) (codes : List ℕ) : Type 0 where
  pub there : FlatList row at codes
  pub few : length codes ≤ most

-- a list is put into places, and a part: one that is everything has the sign for its count, and leaves the places as they are
abbrev pub part_count : Part ℕ → ℕ
part_count (Part.listed ns) = length ns
part_count Part.everything = everything_sign

abbrev pub put_part : List ℕ → Part ℕ → List ℕ
put_part places (Part.listed ns) = put_into places ns
put_part places Part.everything = places

abbrev pub ListPut : List ℕ → List ℕ → ℕ → Option ℕ → List ℕ → Type 0
ListPut old row at o new = Put length (put_into old) (Numbered (length old)) (FlatList row at) o new

abbrev pub PartPut : List ℕ → List ℕ → ℕ → Option ℕ → List ℕ → Type 0
PartPut old row at o new = Put part_count (put_part old) (SortedPart ltb Word) (FlatPart row at) o new

-- packages, entries and a package part have their codes at a place
abbrev pub PackagesDecoded : List ℕ → ℕ → Option Packages → Type 0
PackagesDecoded row at o =
    Decoded store_packages (Sorted package_before PackageFits most_provided) (λ ps. FlatList row at (map package_code ps)) o

abbrev pub EntriesDecoded : List ℕ → ℕ → Option Entries → Type 0
EntriesDecoded row at o = Decoded store_entries (Sorted entry_before LegalEntry most_listed) (λ es. FlatList row at (map entry_code es)) o

abbrev pub PackagePartDecoded : List ℕ → ℕ → Option Entries → Type 0
PackagePartDecoded row at o =
    Decoded store_package_part (SortedPart entry_before LegalEntry) (λ q. FlatPart row at (map_part entry_code q)) o

-- the numbers of a row have a bundle, a connection
abbrev pub FlatBundle : List ℕ → Bundle → Type 0
FlatBundle xs b = FlatFields most_provided xs (fields_of_bundle b)

abbrev pub FlatConnection : List ℕ → Connection → Type 0
FlatConnection xs c = FlatFields most_listed xs (fields_of_connection c)

-- regions as a graph has them
abbrev pub GoodRegions : List ℕ → Type 0
GoodRegions rs = Sorted ltb (λ r. r < regions) regions rs

-- elements, stored as B, that have the numbers of a row: bundles and connections whose regions are among rs
pub record Kind (B : Type 0) : Type 1 where
  pub Element : Type 0
  pub Is : List ℕ → Element → Type 0
  pub Good : Element → Type 0
  pub before : Element → Element → Bool
  pub put : Element → B

-- they are told apart by a row of so many numbers, and their order is that of a number of what is stored
pub record KindLaws {B : Type 0} (width : ℕ) (key : B → ℕ) (k : Kind B) : Type 0 where
  pub wide : 0 < width
  pub keyed : (x y : k.Element) → k.Good x → k.Good y → k.before x y ≡ ltb (key (k.put x)) (key (k.put y))
  pub same : (row : List ℕ) (x y : k.Element) → k.Good x → k.Good y → k.Is row x → k.Is row y → x ≡ y

abbrev pub bundle_kind : List ℕ → Kind StoredBundle
bundle_kind rs =
    record { Element = Bundle; Is = FlatBundle; Good = LegalBundle rs; before = bundle_before; put = store_bundle }

abbrev pub connection_kind : List ℕ → Kind StoredConnection
connection_kind rs =
    record { Element = Connection; Is = FlatConnection; Good = LegalConnection rs; before = connection_before; put = store_connection }

-- a list of elements is put into the first places, one row after the other
abbrev pub RowsPut : {B : Type 0} → Kind B → ℕ → List ℕ → List B → Option ℕ → List B → Type 0
RowsPut k width rows old o new =
    Put length (λ xs. map k.put xs ++ drop (length xs) old) (Sorted k.before k.Good (length old)) (Flat width k.Is rows) o new
