-- The length and the next record of a section: the ways in which none stands at a place, and the one that does.
use mathlib.Core.Path.{◌≡◌, sym, ap, ◌∙◌, subst}
use mathlib.Core.List.{List, [], ◌++◌, append-nil, append_assoc}
use Prim.Native.Nat.{ℕ, suc, ◌+◌, ◌-◌, ◌^◌, ◌≤◌, ◌<◌}
use native.Mathlib.Numerals.{add-one}
use native.Mathlib.Omega.{arith}
use lib.ListN.{length, take, drop, length-append, length-drop, take-append-drop, drop_of_length-le}
use lib.Seq.{length-take-le, take_at, drop-append-le}
use Rattle.std.specs.Prelude.{Some, None}
use Rattle.region_graph.specs.Size.{regions}
use Rattle.region_graph.specs.Sets.{members}
use Rattle.region_graph.specs.Lists.{All}
use Rattle.region_graph.specs.Flat.{Fields}
use Rattle.region_graph.proofs.FlatLaws.{members_small}
use Rattle.big_endian.specs.Bytes.{big}
use Rattle.big_endian.specs.Parsing.{Parsed, Unparsed, ParsedInto}
use Rattle.big_endian.proofs.Digits.{big_length}
use Rattle.big_endian.proofs.Delimits.{big_same}
use Rattle.big_endian.proofs.Rows.{Elements}
use Rattle.region_archive.specs.RecordFields.{bytes_to, GoodTo, field_count, most_in, FieldGood, field_bytes, fields_bytes, FlatField, FlatElem}
use Rattle.region_archive.specs.RecordFields.{Elem, fields_of, record_bytes, LegalElem}
use Rattle.region_archive.specs.Sections.{FieldRead, LengthStands, NoLength, HighElem}
use Rattle.region_archive.specs.declared.record_fields.Section.{Section}
use Rattle.region_archive.proofs.FieldLaws.{FieldKinds, to_none, to_more, to_stuck, to_all}
use Rattle.region_archive.proofs.RecordLaws.{Element, element_of, flat_of, record_fields, fields_same, fields_small, same_bytes, element_good}
use Rattle.region_archive.proofs.Records.{section_elements}

-- what a section is read from: its kind, the regions of the graph, and the bytes
pub record Source : Type 0 where
  pub section : Section
  pub rs : List ℕ
  pub small : All (λ r. r < regions) rs
  pub bytes : List ℕ

-- with the regions of a set
abbrev pub from_bytes : Section → ℕ → List ℕ → Source
from_bytes section set bytes = record { section = section; rs = members set; small = members_small set; bytes = bytes }

abbrev pub elements_of : (q : Source) → Elements (Elem q.section)
elements_of q = section_elements q.rs q.small q.section

abbrev kinds : Source → ℕ → FieldKinds Fields
kinds q least = record_fields q.section q.rs least

-- the first j fields of x stand from `mid` to `to`
abbrev pub FieldsStand : Source → ℕ → ℕ → List ℕ → ℕ → Fields → ℕ → Type 0
FieldsStand q least j s mid x to = Parsed (GoodTo (FieldGood q.section q.rs least) j) (bytes_to (field_bytes q.section) j) s mid x to

-- those of a record that ends at `stop` were read into its row
pub record FieldsRead (q : Source) (least stop mid j : ℕ) (row : List ℕ) (to : ℕ) : Type 0 where
  pub value : Fields
  pub parsed : FieldsStand q least j (take stop q.bytes) mid value to
  pub put : GoodTo (FlatField (most_in q.section) row) j value

pub fields_start : {q : Source} {least stop mid : ℕ} {row : List ℕ} → mid ≤ length (take stop q.bytes) → FieldsRead q least stop mid 0 row mid
fields_start {q} {least} h = record { value = none; parsed = to_none (kinds q least) none h; put = tt }
  where
    none : Fields
    none = record { first = 0; second = 0; parts = [] }

-- one field more
pub fields_more : {q : Source} {least stop mid j : ℕ} {row : List ℕ} {to : ℕ} → FieldsRead q least stop mid j row to → {new : List ℕ} {next : ℕ}
    → FieldRead q.section q.rs least j (take stop q.bytes) to row new (Some next) → FieldsRead q least stop mid (j + 1) new next
fields_more {q} {least} {stop} {mid} {j} p f =
    let v = f.answer p.value p.parsed.is_good p.put in
    rw add-one (record { value = v.value; parsed = to_more (kinds q least) j p.parsed v.parsed; put = v.put })

-- bytes from a place on, so many, and those up to their end
module _ (s : List ℕ) (mid size : ℕ) (l : mid + size ≤ length s) where
  -- they, and the rest
  drop_split : drop mid s ≡ drop mid (take (mid + size) s) ++ drop (mid + size) s
  drop_split =
      ap (drop mid) (sym (take-append-drop (mid + size) s))
      ∙ drop-append-le mid (take (mid + size) s) (drop (mid + size) s) (omega (arith, length-take-le (mid + size) s l))

  drop_length_is : length (drop mid (take (mid + size) s)) ≡ size
  drop_length_is = length-drop mid (take (mid + size) s) ∙ omega (arith, length-take-le (mid + size) s l)

-- no record of a legal element with such a key stands at a place
abbrev pub NoRecord : Source → ℕ → ℕ → Type 0
NoRecord q at least = Unparsed (HighElem q.section q.rs least) (record_bytes q.section) q.bytes at

-- a length that stands at a place: bytes are missing behind it
pub short_length : {s : List ℕ} {at size next : ℕ} → Parsed (λ m. m < 256 ^ 2) (big 2) s at size next → length s - next < size → NoLength s at
short_length {s} {size = size} {next} p h n l k i e =
    let d = big_same 2 size n (drop next s) l p.is_good k (sym p.shape ∙ e) in
    omega (arith, d.0, sym (length-drop next s) ∙ ap length d.1)

-- the bytes of an element's fields, and the bytes up to the end of a record
abbrev all_fields : (q : Source) → Elem q.section → List ℕ
all_fields q z = fields_bytes q.section (fields_of q.section z)

length_small : (q : Source) (z : Elem q.section) → LegalElem q.section q.rs z → length (all_fields q z) < 256 ^ 2
length_small q z h =
    fields_small q.section q.rs 0 (fields_of q.section z) (element_good q.rs 0 q.small q.section z h (omega arith))

-- its length is not there
pub lengthless : (q : Source) (at least : ℕ) → NoLength q.bytes at → NoRecord q at least
lengthless q at least u z r h e =
    u (length (all_fields q z)) (all_fields q z ++ r) (length_small q z h.0) (omega (arith, length-append (all_fields q z) r))
    (e ∙ append_assoc (big 2 (length (all_fields q z))) (all_fields q z) r)

module _ (q : Source) {at size next : ℕ} (p : LengthStands q.bytes at size next) where
  abbrev part : List ℕ
  part = take (next + size) q.bytes

  -- the fields of a record that stands there fill the bytes that its length counts
  within : (z : Elem q.section) (t : List ℕ) → LegalElem q.section q.rs z → drop at q.bytes ≡ record_bytes q.section z ++ t
      → drop next part ≡ all_fields q z ++ []
  within z t h e =
      sym (take_at (drop next part) (drop (next + size) q.bytes) size (drop_length_is q.bytes next size p.room))
      ∙ ap (take size) (sym (drop_split q.bytes next size p.room) ∙ cut.1)
      ∙ take_at (all_fields q z) t size (sym cut.0) ∙ sym (append-nil (all_fields q z))
    where
      cut : (size ≡ length (all_fields q z)) × (drop next q.bytes ≡ all_fields q z ++ t)
      cut =
          big_same 2 size (length (all_fields q z)) (drop next q.bytes) (all_fields q z ++ t) p.parsed.is_good
          (length_small q z h) (sym p.parsed.shape ∙ e ∙ append_assoc (big 2 (length (all_fields q z))) (all_fields q z) t)

  module _ {least j : ℕ} {row : List ℕ} {to : ℕ} (f : FieldsRead q least (next + size) next j row to) where
    -- a field is not there
    pub no_field : {new : List ℕ} → FieldRead q.section q.rs least j part to row new None → j < field_count q.section → NoRecord q at least
    no_field d l z t h e =
        let u = to_stuck (kinds q least) j f.parsed (d.answer f.value f.parsed.is_good f.put) in
        to_all (kinds q least) part next (suc j) (field_count q.section) l u (fields_of q.section z) []
        (element_good q.rs least q.small q.section z h.0 h.1) (within z t h.0 e)

    module _ (e : j ≡ field_count q.section) where
      all_parsed : FieldsStand q least (field_count q.section) part next f.value to
      all_parsed = subst (λ (i : ℕ). FieldsStand q least i part next f.value to) e f.parsed

      -- the fields end before the record does
      pub misfit : (to ≡ next + size → ⊥) → NoRecord q at least
      misfit u z t h i =
          let d =
          fields_same q.section q.rs least f.value (fields_of q.section z) (drop to part) [] all_parsed.is_good
          (element_good q.rs least q.small q.section z h.0 h.1) (sym all_parsed.shape ∙ within z t h.0 i) in
          u (omega (arith, all_parsed.room, length-take-le (next + size) q.bytes p.room, sym (length-drop to part) ∙ ap length d.1))

      -- the record of the element with these fields stands there
      pub record_stands : to ≡ next + size → ParsedInto (HighElem q.section q.rs least) (record_bytes q.section) q.bytes at (FlatElem q.section row) to
      record_stands i = record {
        value = x;
        parsed = record {
          is_good = (found.legal, found.high);
          shape =
              p.parsed.shape ∙ (λ j. big 2 (counts j) ++ rest j)
              ∙ sym (append_assoc (big 2 (length (all_fields q x))) (all_fields q x) (drop (next + size) q.bytes))
              ∙ ap (λ (n : ℕ). record_bytes q.section x ++ drop n q.bytes) (sym i);
          ends = rw length-append (omega (arith, i, p.parsed.ends, counts, big_length 2 size, big_length 2 (length (all_fields q x))));
          room = omega (arith, p.room);
        };
        put = flat_of q.section row f.value x found.same (subst (λ (n : ℕ). GoodTo (FlatField (most_in q.section) row) n f.value) e f.put);
      }
        where
          found : Element q.rs least q.section f.value
          found = element_of q.rs least q.section f.value all_parsed.is_good

          x : Elem q.section
          x = found.elem

          whole : drop next part ≡ all_fields q x
          whole =
              all_parsed.shape
              ∙ ap (λ (l : List ℕ). fields_bytes q.section f.value ++ l)
              (drop_of_length-le part {i = to} (omega (arith, length-take-le (next + size) q.bytes p.room)))
              ∙ append-nil (fields_bytes q.section f.value) ∙ same_bytes q.section f.value (fields_of q.section x) found.same

          counts : size ≡ length (all_fields q x)
          counts = sym (drop_length_is q.bytes next size p.room) ∙ ap length whole

          rest : drop next q.bytes ≡ all_fields q x ++ drop (next + size) q.bytes
          rest = drop_split q.bytes next size p.room ∙ ap (λ (l : List ℕ). l ++ drop (next + size) q.bytes) whole
