-- What the private functions promise of an archive's records and sections.
use Rattle.std.specs.Prelude.{◌≡◌, Bool, true, List, ◌++◌, ℕ, suc, ◌+◌, ◌≤◌, ◌<◌, ◌^◌, length, take, drop, Option, MatchOption, Result, Ok, Err}
use Rattle.region_graph.specs.Sets.{members}
use Rattle.region_graph.specs.declared.refusals.Refusal.{Refusal}
use Rattle.region_graph.specs.Model.{Model, Part, Legal}
use Rattle.region_graph.specs.Record.{Valid, meaning}
use Rattle.region_graph.specs.declared.Graph.{Graph}
use Rattle.region_graph.specs.Decoded.{GoodRegions}
use Rattle.region_graph.specs.Flat.{Fields, FlatPart, Flat}
use Rattle.big_endian.specs.Bytes.{big, counted}
use Rattle.region_archive.specs.Image.{part_bytes, body_in, in_version}
use Rattle.big_endian.specs.Parsing.{Parsed, Unparsed, ParsedInto, AnswerInto}
use Rattle.big_endian.specs.declared.At.{At}
use Rattle.region_archive.specs.Forms.{element_bytes, Coded}
use Rattle.region_archive.specs.RecordFields.{SameTo, GoodTo, PartGood, FieldGood, field_bytes, FieldSame, FlatField}
use Rattle.region_archive.specs.RecordFields.{FlatElem, Elem, key, record_bytes, most_in, row_width, LegalElem, LegalElems}
use Rattle.region_archive.specs.declared.forms.Form.{Form}
use Rattle.region_archive.specs.declared.record_fields.Section.{Section}
use Rattle.region_archive.specs.declared.sections.Regions.{Regions}

-- a list, and a part, was read at a place into the first places of a row, or none stands there
pub record ListRead (form : Form) (most : ℕ) (bytes : List ℕ) (at : ℕ) (old new : List ℕ) (r : Option ℕ) : Type 0 where
  pub size : length new ≡ length old
  pub answer : AnswerInto (Coded form most) (counted (element_bytes form)) bytes at (λ xs. FlatPart new 0 (Part.listed xs)) r

pub record PartRead (form : Form) (most : ℕ) (all : Bool) (bytes : List ℕ) (at : ℕ) (old new : List ℕ) (r : Option ℕ) : Type 0 where
  pub size : length new ≡ length old
  pub answer : AnswerInto (PartGood form most all) (part_bytes (element_bytes form)) bytes at (FlatPart new 0) r

-- field k was read at a place, for a record whose fields before it are those of x: these stay
pub record FieldRead (s : Section) (rs : List ℕ) (floor k : ℕ) (bytes : List ℕ) (at : ℕ) (old new : List ℕ) (r : Option ℕ) : Type 0 where
  pub size : length new ≡ length old
  pub answer : (x : Fields) → GoodTo (FieldGood s rs floor) k x → GoodTo (FlatField (most_in s) old) k x
      → AnswerInto (λ y. SameTo FieldSame k x y × FieldGood s rs floor k y) (field_bytes s k) bytes at
      (GoodTo (FlatField (most_in s) new) (suc k)) r

-- a length of two bytes stands at a place, with as many bytes after it
pub record LengthStands (bytes : List ℕ) (at size next : ℕ) : Type 0 where
  pub parsed : Parsed (λ n. n < 256 ^ 2) (big 2) bytes at size next
  pub room : next + size ≤ length bytes

-- or none does
abbrev pub NoLength : List ℕ → ℕ → Type 0
NoLength bytes at = (n : ℕ) (l : List ℕ) → n < 256 ^ 2 → n ≤ length l → drop at bytes ≡ big 2 n ++ l → ⊥

abbrev pub LengthRead : List ℕ → ℕ → Option (At ℕ) → Type 0
LengthRead bytes at r = MatchOption r (NoLength bytes at) (λ a. LengthStands bytes at a.value a.next)

-- a record of an element whose order is high enough was read at a place into a row, in a graph with regions rs, or none stands there
abbrev pub HighElem : (s : Section) → List ℕ → ℕ → Elem s → Type 0
HighElem s rs floor x = LegalElem s rs x × (floor ≤ key s x)

pub record RecordRead (s : Section) (rs : List ℕ) (floor : ℕ) (bytes : List ℕ) (at : ℕ) (old new : List ℕ) (r : Option ℕ) : Type 0 where
  pub size : length new ≡ length old
  pub answer : AnswerInto (HighElem s rs floor) (record_bytes s) bytes at (FlatElem s new) r

-- the regions stand at a place, in a list and a set
pub record RegionsStand (bytes : List ℕ) (at : ℕ) (list : List ℕ) (r : Regions) (next : ℕ) : Type 0 where
  pub room : r.count ≤ length list
  pub parsed : Parsed GoodRegions (counted (big 1)) bytes at (members r.set) next
  pub listed : take r.count list ≡ members r.set

abbrev pub RegionsRead : List ℕ → ℕ → List ℕ → Option (At Regions) → Type 0
RegionsRead bytes at list r = MatchOption r (Unparsed GoodRegions (counted (big 1)) bytes at) (λ a. RegionsStand bytes at list a.value a.next)

-- a section stands at a place, in `count` numbers of rows, in a graph with regions rs
pub record SectionStands (k : Section) (rs : List ℕ) (bytes : List ℕ) (at : ℕ) (rows : List ℕ) (count next : ℕ) : Type 0 where
  pub room : count ≤ length rows
  pub read : ParsedInto (LegalElems k rs) (counted (record_bytes k)) bytes at (Flat (row_width k) (FlatElem k) (take count rows)) next

abbrev pub SectionRead : (k : Section) → List ℕ → List ℕ → ℕ → List ℕ → Option (At ℕ) → Type 0
SectionRead k rs bytes at rows r =
    MatchOption r (Unparsed (LegalElems k rs) (counted (record_bytes k)) bytes at) (λ a. SectionStands k rs bytes at rows a.value a.next)

-- a legal model that has an image of version v
abbrev pub LegalIn : ℕ → Model → Type 0
LegalIn v m = Legal m × (in_version v m ≡ true)

-- a body was read at a place, to the end, in a file of version v: the graph of the model whose body it is, or a refusal where it is none's
pub data BodyRead (v : ℕ) (s : List ℕ) (at : ℕ) (r : Result Graph Refusal) : Type 0 where
  whole : (m : Model) → Parsed (LegalIn v) (body_in v) s at m (length s) → (g : Graph) → r ≡ Ok g → Valid g → meaning g ≡ m → BodyRead v s at r
  broken : ((m : Model) → LegalIn v m → drop at s ≡ body_in v m → ⊥) → r ≡ Err Refusal.BrokenLayout → BodyRead v s at r
