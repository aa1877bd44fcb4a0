-- A record of an archive of some version as its fields: two numbers, then parts. The record of a bundle has four fields, that of a connection
-- five.
use Rattle.std.specs.Prelude.{◌≡◌, Bool, true, false, not, ◌&&◌, ◌||◌, List, [], ◌++◌, map, ℕ, zero, suc, ◌+◌, ◌*◌, ◌≤◌, ◌<◌, ◌^◌, leb, ltb, eqb, length, get_or, take}
use Rattle.region_graph.specs.Size.{most_listed, most_provided, most_bundles, most_connections, everything_sign}
use Rattle.region_graph.specs.Lists.{All, member, pick}
use Rattle.region_graph.specs.Model.{Model, Bundle, Part, Connection, Sorted, LegalBundle, LegalConnection, bundle_before, connection_before}
use Rattle.region_graph.specs.Flat.{Fields, fields_of_bundle, fields_of_connection, FlatPart, FlatFields, bundle_width, connection_width}
use Rattle.region_graph.specs.Record.{number_places}
use Rattle.region_graph.specs.declared.numbers.Numbers.{Numbers}
use Rattle.region_graph.specs.declared.numbers.Provided.{Provided}
use Rattle.region_graph.specs.declared.packages.Packages.{Packages}
use Rattle.region_graph.specs.declared.packages.Entries.{Entries}
use Rattle.region_graph.specs.declared.bundles.StoredBundle.{StoredBundle}
use Rattle.region_graph.specs.declared.connections.StoredConnection.{StoredConnection}
use Rattle.big_endian.specs.Bytes.{big, counted, sized}
use Rattle.region_archive.specs.Image.{part_bytes, plain_bundle, plain_connection}
use Rattle.region_archive.specs.Forms.{element_bytes, Coded, form_of}
use Rattle.region_archive.specs.declared.forms.Form.{Form}
use Rattle.region_archive.specs.declared.record_fields.Codes.{Codes}
use Rattle.region_archive.specs.declared.record_fields.FieldValues.{FieldValues}
use Rattle.region_archive.specs.declared.record_fields.Layout.{Layout}
use Rattle.region_archive.specs.declared.record_fields.Section.{Section}

-- values whose bytes are those of fields, one after the other: their first k fields
module _ {A : Type 0} where
  abbrev pub bytes_to : (ℕ → A → List ℕ) → ℕ → A → List ℕ
  bytes_to bytes zero x = []
  bytes_to bytes (suc k) x = bytes_to bytes k x ++ bytes k x

  abbrev pub SameTo : (ℕ → A → A → Type 0) → ℕ → A → A → Type 0
  SameTo same zero x y = Unit {0}
  SameTo same (suc k) x y = SameTo same k x y × same k x y

  abbrev pub GoodTo : (ℕ → A → Type 0) → ℕ → A → Type 0
  GoodTo good zero x = Unit {0}
  GoodTo good (suc k) x = GoodTo good k x × good k x

abbrev pub part_at : Fields → ℕ → Part ℕ
part_at f k = get_or f.parts k (Part.listed [])

-- the bytes of a record's first number, and the count of its fields
abbrev pub first_width : Section → ℕ
first_width (Section.Bundles v) = 4
first_width (Section.Connections v) = 1

abbrev pub field_count : Section → ℕ
field_count (Section.Bundles v) = 4
field_count (Section.Connections v) = 5

-- how many numbers a list of a record may have, and how many a record takes in a flat list
abbrev pub most_in : Section → ℕ
most_in (Section.Bundles v) = most_provided
most_in (Section.Connections v) = most_listed

abbrev pub row_width : Section → ℕ
row_width (Section.Bundles v) = bundle_width
row_width (Section.Connections v) = connection_width

module _ (s : Section) where
  abbrev pub field_bytes : ℕ → Fields → List ℕ
  field_bytes zero f = big (first_width s) f.first
  field_bytes (suc zero) f = big 1 f.second
  field_bytes (suc (suc k)) f = part_bytes (element_bytes (form_of s (suc (suc k)))) (part_at f k)

  abbrev pub fields_bytes : Fields → List ℕ
  fields_bytes f = bytes_to field_bytes (field_count s) f

abbrev pub FieldSame : ℕ → Fields → Fields → Type 0
FieldSame zero x y = x.first ≡ y.first
FieldSame (suc zero) x y = x.second ≡ y.second
FieldSame (suc (suc k)) x y = part_at x k ≡ part_at y k

-- what the two sections have, and the fields of each element
abbrev pub Elem : Section → Type 0
Elem (Section.Bundles v) = Bundle
Elem (Section.Connections v) = Connection

abbrev pub fields_of : (s : Section) → Elem s → Fields
fields_of (Section.Bundles v) b = fields_of_bundle b
fields_of (Section.Connections v) c = fields_of_connection c

abbrev pub record_bytes : (s : Section) → Elem s → List ℕ
record_bytes s x = sized 2 (λ y. fields_bytes s (fields_of s y)) x

-- by which the elements ascend
abbrev pub field_key : Section → ℕ → ℕ → ℕ
field_key (Section.Bundles v) first second = first
field_key (Section.Connections v) first second = first * 256 + second

abbrev pub key : (s : Section) → Elem s → ℕ
key s x = field_key s (fields_of s x).first (fields_of s x).second

abbrev pub most_records : Section → ℕ
most_records (Section.Bundles v) = most_bundles
most_records (Section.Connections v) = most_connections

-- all of these in one
abbrev pub layout_of : Section → Layout
layout_of s = record {
  fields = field_count s;
  first_width = first_width s;
  most_in = most_in s;
  most_records = most_records s;
  width = row_width s;
}

-- their order
abbrev pub element_before : (s : Section) → Elem s → Elem s → Bool
element_before (Section.Bundles v) = bundle_before
element_before (Section.Connections v) = connection_before

-- before version 3 a record says nothing of versions
abbrev pub LegalElem : (s : Section) → List ℕ → Elem s → Type 0
LegalElem (Section.Bundles v) rs b = LegalBundle rs b × ((leb 3 v || plain_bundle b) ≡ true)
LegalElem (Section.Connections v) rs c = LegalConnection rs c × ((leb 3 v || plain_connection c) ≡ true)

-- the elements of a section of a graph with regions rs
abbrev pub LegalElems : (s : Section) → List ℕ → List (Elem s) → Type 0
LegalElems s rs xs = Sorted (element_before s) (LegalElem s rs) (most_records s) xs

abbrev pub elements : (s : Section) → Model → List (Elem s)
elements (Section.Bundles v) m = m.bundles
elements (Section.Connections v) m = m.connections

abbrev pub section_bytes : (s : Section) → Model → List ℕ
section_bytes s m = counted (record_bytes s) (elements s m)

-- two values have the same fields
abbrev pub SameFields : Section → Fields → Fields → Type 0
SameFields s x y = SameTo FieldSame (field_count s) x y

-- the engine's value of a record
pub record ListFits (most n : ℕ) (items : List ℕ) : Type 0 where
  pub count : n ≤ most
  pub size : length items ≡ most

abbrev pub NumbersFit : Numbers → Type 0
NumbersFit n = ListFits most_listed n.count n.items

abbrev pub ProvidedFits : Provided → Type 0
ProvidedFits n = ListFits most_provided n.count n.items

pub record PartFits (n : ℕ) (items : List ℕ) : Type 0 where
  pub count : (n ≡ everything_sign → ⊥) → n ≤ most_listed
  pub size : length items ≡ most_listed

pub record PackagesFit (p : Packages) : Type 0 where
  pub numbers : ListFits most_provided p.count p.numbers
  pub versions : ListFits most_provided p.count p.versions

pub record EntriesFit (e : Entries) : Type 0 where
  pub numbers : PartFits e.count e.numbers
  pub lowest : PartFits e.count e.lowest
  pub highest : PartFits e.count e.highest

pub record BundleFits (b : StoredBundle) : Type 0 where
  pub packages : PackagesFit b.packages
  pub services : ProvidedFits b.services

pub record ConnectionFits (c : StoredConnection) : Type 0 where
  pub bundles : NumbersFit c.bundles
  pub packages : EntriesFit c.packages
  pub services : PartFits c.services.count c.services.items

-- numbers as codes, in as many places as a part has
abbrev pub as_codes : ℕ → List ℕ → Codes
as_codes n items = record { count = n; items = number_places most_listed items }

abbrev pub codes_of : Codes → List ℕ
codes_of n = take n.count n.items

-- a part by its count and its places
abbrev pub counted_part : ℕ → List ℕ → Part ℕ
counted_part n items = pick (eqb n everything_sign) Part.everything (Part.listed (take n items))

abbrev pub part_of : Codes → Part ℕ
part_of n = counted_part n.count n.items

abbrev pub CodesFit : Codes → Type 0
CodesFit n = ListFits most_listed n.count n.items

abbrev pub CodePartFits : Codes → Type 0
CodePartFits n = PartFits n.count n.items

pub record ValuesFit (e : FieldValues) : Type 0 where
  pub size : length e.parts ≡ 3
  pub each : All CodePartFits e.parts

abbrev pub fields_in : FieldValues → Fields
fields_in e = record { first = e.first; second = e.second; parts = map part_of e.parts }

-- the value has such fields, for a record of a section
pub record ValuesAre (s : Section) (e : FieldValues) (f : Fields) : Type 0 where
  pub fits : ValuesFit e
  pub same : SameFields s (fields_in e) f

-- records with their count, each as its fields after their length
abbrev pub records_bytes : {A : Type 0} → Section → (A → Fields) → List A → List ℕ
records_bytes s fields xs = counted (sized 2 (λ x. fields_bytes s (fields x))) xs

-- what the reader asks of a record field by field, in a graph with regions rs, where orders are at least `floor`

-- a connection starts in a region of the graph, and its ends differ
abbrev pub source_held : Section → List ℕ → ℕ → Bool
source_held (Section.Bundles v) rs first = true
source_held (Section.Connections v) rs first = member first rs

abbrev pub ends_differ : Section → ℕ → ℕ → Bool
ends_differ (Section.Bundles v) first second = true
ends_differ (Section.Connections v) first second = not (eqb first second)

-- everything may stand in the last two fields of a connection
abbrev pub part_open : Section → ℕ → Bool
part_open (Section.Bundles v) field = false
part_open (Section.Connections v) field = ltb 2 field

abbrev pub PartGood : Form → ℕ → Bool → Part ℕ → Type 0
PartGood form most all (Part.listed xs) = Coded form most xs
PartGood form most all Part.everything = all ≡ true

module _ (s : Section) (rs : List ℕ) (floor : ℕ) where
  -- some second number gives an order that is high enough
  abbrev pub first_good : ℕ → Bool
  first_good first = leb floor (field_key s first 255) && source_held s rs first

  abbrev pub second_good : ℕ → ℕ → Bool
  second_good first second = leb floor (field_key s first second) && (ends_differ s first second && member second rs)

  abbrev pub FieldGood : ℕ → Fields → Type 0
  FieldGood zero f = (f.first < 256 ^ first_width s) × (first_good f.first ≡ true)
  FieldGood (suc zero) f = (f.second < 256) × (second_good f.first f.second ≡ true)
  FieldGood (suc (suc k)) f = PartGood (form_of s (suc (suc k))) (most_in s) (part_open s (suc (suc k))) (part_at f k)

-- a field's numbers at their places in a row
abbrev pub FlatField : ℕ → List ℕ → ℕ → Fields → Type 0
FlatField most row zero f = get_or row 0 0 ≡ f.first
FlatField most row (suc zero) f = get_or row 1 0 ≡ f.second
FlatField most row (suc (suc k)) f = FlatPart row (2 + k * (most + 1)) (part_at f k)

abbrev pub FlatElem : (s : Section) → List ℕ → Elem s → Type 0
FlatElem s row x = FlatFields (most_in s) row (fields_of s x)
