-- The records of an archive as their fields in order are the records of the image.
use mathlib.Core.Path.{◌≡◌, refl, sym, ap, ap₂, ◌∙◌}
use mathlib.Core.List.{List, [], ◌∷◌, ◌++◌, map, append_assoc}
use Prim.Native.Nat.{ℕ, zero, suc, ◌-◌, ◌≤◌, ◌<◌}
use native.Mathlib.Omega.{arith}
use lib.Dec.{ltb}
use lib.ListN.{length, get_or, length-map}
use Rattle.region_graph.specs.Size.{regions}
use Rattle.region_graph.specs.Lists.{All, concat_map}
use Rattle.region_graph.specs.Model.{Model, Bundle, Connection, Part, LegalBundle, LegalConnection, Legal, Word, SortedPart}
use Rattle.region_graph.specs.Flat.{Fields, package_code, entry_code, map_part}
use Rattle.region_graph.proofs.Lists.{member_all}
use Rattle.region_graph.proofs.Ascending.{connection_order}
use Rattle.region_graph.proofs.Arrays.{getD_map_in}
use Rattle.region_graph.proofs.Storing.{map_id}
use Rattle.big_endian.specs.Bytes.{big, counted, sized}
use Rattle.big_endian.proofs.Delimits.{Delimits, reader_same}
use Rattle.big_endian.proofs.Readers.{read_where, read_sized}
use Rattle.big_endian.proofs.Rows.{Elements}
use Rattle.region_archive.specs.Image.{part_bytes, bundle_fields, connection_fields, export_in, entry_in, body_in}
use Rattle.region_archive.specs.Forms.{element_bytes, numbers_form, form_of}
use Rattle.region_archive.specs.RecordFields.{field_bytes, fields_bytes, first_width, Elem, fields_of, part_of, fields_in, ValuesAre}
use Rattle.region_archive.specs.RecordFields.{record_bytes, section_bytes, key, element_before, LegalElem}
use Rattle.region_archive.specs.declared.forms.Form.{Form}
use Rattle.region_archive.specs.declared.record_fields.Codes.{Codes}
use Rattle.region_archive.specs.declared.record_fields.FieldValues.{FieldValues}
use Rattle.region_archive.specs.declared.record_fields.Section.{Section}
use Rattle.region_archive.proofs.ModelReaders.{read_bundle, read_connection, fit_bundle, fit_connection}
use Rattle.region_archive.proofs.FormLaws.{packages_in, entries_in}
use Rattle.region_archive.proofs.Versioned.{numbers_formed, packages_formed, entries_formed, formed_counted, formed_part, part_id}
use Rattle.region_archive.proofs.RecordLaws.{same_bytes}

-- the bytes of numbers
numbers_shown : (xs : List ℕ) → All Word xs → counted (element_bytes numbers_form) xs ≡ counted (big 4) xs
numbers_shown xs h = ap (counted (element_bytes numbers_form)) (sym (map_id xs)) ∙ formed_counted numbers_formed xs h

part_shown : (p : Part ℕ) → SortedPart ltb Word p → part_bytes (element_bytes numbers_form) p ≡ part_bytes (big 4) p
part_shown p h = ap (part_bytes (element_bytes numbers_form)) (sym (part_id p)) ∙ formed_part numbers_formed p h

-- a bundle's record is the length of its four fields and the fields
bundle_record : (v : ℕ) {rs : List ℕ} (b : Bundle) → LegalBundle rs b
    → record_bytes (Section.Bundles v) b ≡ sized 2 (bundle_fields (export_in v) (entry_in v)) b
unfolding form_of
bundle_record v b h = ap (λ (l : List ℕ). big 2 (length l) ++ l) fields
  where
    shown : List ℕ → List ℕ → List ℕ
    shown ps ss = big 4 b.location ++ (big 1 b.region ++ (ps ++ ss))

    fields : fields_bytes (Section.Bundles v) (fields_of (Section.Bundles v) b) ≡ bundle_fields (export_in v) (entry_in v) b
    fields =
        let joined : fields_bytes (Section.Bundles v) (fields_of (Section.Bundles v) b)
        ≡ shown (counted (element_bytes (packages_in v)) (map package_code b.packages)) (counted (element_bytes numbers_form) b.services)
        = simp append_assoc in
        joined ∙ ap₂ shown (formed_counted (packages_formed v) b.packages h.packages.each) (numbers_shown b.services h.services.each)

-- a connection's record is the length of its five fields and the fields
connection_record : (v : ℕ) {rs : List ℕ} (c : Connection) → LegalConnection rs c
    → record_bytes (Section.Connections v) c ≡ sized 2 (connection_fields (export_in v) (entry_in v)) c
unfolding form_of
connection_record v c h = ap (λ (l : List ℕ). big 2 (length l) ++ l) fields
  where
    shown : List ℕ → List ℕ → List ℕ → List ℕ
    shown bs ps ss = big 1 c.source ++ (big 1 c.target ++ (bs ++ (ps ++ ss)))

    fields : fields_bytes (Section.Connections v) (fields_of (Section.Connections v) c) ≡ connection_fields (export_in v) (entry_in v) c
    fields =
        let joined : fields_bytes (Section.Connections v) (fields_of (Section.Connections v) c)
        ≡ shown (counted (element_bytes numbers_form) c.filter.bundles)
        (part_bytes (element_bytes (entries_in v)) (map_part entry_code c.filter.packages))
        (part_bytes (element_bytes numbers_form) c.filter.services)
        = simp append_assoc in
        joined
        ∙ (λ i. shown (numbers_shown c.filter.bundles h.filter.bundles.each i)
        (formed_part (entries_formed v) c.filter.packages h.filter.packages i) (part_shown c.filter.services h.filter.services i))

-- the elements of a section: a legal element's record tells it apart, and its key is its place in the order
module _ (rs : List ℕ) (small : All (λ r. r < regions) rs) where
  pub element_same : (s : Section) → Delimits (LegalElem s rs) (record_bytes s) ◌≡◌
  element_same (Section.Bundles v) x y r t h g e =
      reader_same (LegalElem (Section.Bundles v) rs) (sized 2 (bundle_fields (export_in v) (entry_in v)))
      (read_where (fit_bundle v rs small) (read_sized 2 (read_bundle v))) x y r t h g
      (ap (λ (l : List ℕ). l ++ r) (sym (bundle_record v x h.0)) ∙ e ∙ ap (λ (l : List ℕ). l ++ t) (bundle_record v y g.0))
  element_same (Section.Connections v) x y r t h g e =
      reader_same (LegalElem (Section.Connections v) rs) (sized 2 (connection_fields (export_in v) (entry_in v)))
      (read_where (fit_connection v rs small) (read_sized 2 (read_connection v))) x y r t h g
      (ap (λ (l : List ℕ). l ++ r) (sym (connection_record v x h.0)) ∙ e ∙ ap (λ (l : List ℕ). l ++ t) (connection_record v y g.0))

  pub element_keyed : (s : Section) (x y : Elem s) → LegalElem s rs x → LegalElem s rs y → element_before s x y ≡ ltb (key s x) (key s y)
  element_keyed (Section.Bundles v) x y h g = refl
  element_keyed (Section.Connections v) x y h g = connection_order 256 x y (target x h.0) (target y g.0)
    where
      target : (c : Connection) → LegalConnection rs c → c.target < 256
      target c l = omega (arith, member_all (λ r. r < regions) c.target rs small l.target)

  abbrev pub section_elements : (s : Section) → Elements (Elem s)
  section_elements s = record {
    good = LegalElem s rs;
    bytes = record_bytes s;
    before = element_before s;
    key = key s;
    same = element_same s;
    keyed = element_keyed s;
  }

-- equal bytes of each element
each_shown : {A : Type 0} (f g : A → List ℕ) (P : A → Type 0) → ((x : A) → P x → f x ≡ g x) → (xs : List A) → All P xs → counted f xs ≡ counted g xs
each_shown {A} f g P e xs h = ap (λ (l : List ℕ). length xs ∷ l) (go xs h)
  where
    go : (ys : List A) → All P ys → concat_map f ys ≡ concat_map g ys
    go [] k = refl
    go (y ∷ ys) k = ap₂ ◌++◌ (e y k.0) (go ys k.1)

-- a body is the regions and the two sections
pub body_sections : (v : ℕ) (m : Model) → Legal m
    → body_in v m ≡ counted (big 1) m.regions ++ (section_bytes (Section.Bundles v) m ++ section_bytes (Section.Connections v) m)
body_sections v m l =
    let bundles =
    each_shown (sized 2 (bundle_fields (export_in v) (entry_in v))) (record_bytes (Section.Bundles v)) (LegalBundle m.regions)
    (λ b h. sym (bundle_record v b h)) m.bundles l.bundles_legal.each in
    let connections =
    each_shown (sized 2 (connection_fields (export_in v) (entry_in v))) (record_bytes (Section.Connections v)) (LegalConnection m.regions)
    (λ c h. sym (connection_record v c h)) m.connections l.connections_legal.each in
    λ i. counted (big 1) m.regions ++ (bundles i ++ connections i)

-- a value with such fields has their record
pub values_record : (s : Section) (e : FieldValues) (f : Fields) → ValuesAre s e f → sized 2 (fields_bytes s) (fields_in e) ≡ sized 2 (fields_bytes s) f
values_record s e f h = ap (λ (l : List ℕ). big 2 (length l) ++ l) (same_bytes s (fields_in e) f h.same)

-- and that of the element at a place with such fields
pub item_record : {A : Type 0} (fields : A → Fields) (xs : List A) {s t : Section} {e : FieldValues} {x : A} (i : ℕ) → t ≡ s → x ≡ get_or xs i x
    → ValuesAre s e (fields x) → sized 2 (fields_bytes t) (fields_in e) ≡ sized 2 (λ r. fields_bytes s (fields r)) (get_or xs i x)
item_record fields xs {s} {t} {e} {x} i k is h =
    ap (λ (u : Section). sized 2 (fields_bytes u) (fields_in e)) k ∙ values_record s e (fields x) h
    ∙ ap (λ y. sized 2 (λ r. fields_bytes s (fields r)) y) is

-- the records of what elements are stored as are those of the elements
pub counted_map : {A B : Type 0} (h : B → List ℕ) (g : A → B) (xs : List A) → counted (λ x. h (g x)) xs ≡ counted h (map g xs)
counted_map {A} h g xs = λ i. sym (length-map xs g) i ∷ go xs i
  where
    go : (ys : List A) → concat_map (λ x. h (g x)) ys ≡ concat_map h (map g ys)
    go [] = refl
    go (y ∷ ys) = ap (λ (l : List ℕ). h (g y) ++ l) (go ys)

-- the bytes of the two fields that are numbers
pub first_field : (s : Section) (f : Fields) {k : ℕ} → k ≡ 0 → field_bytes s k f ≡ big (first_width s) f.first
first_field s f e = rw e

pub second_field : (s : Section) (f : Fields) {k : ℕ} → k ≡ 1 → field_bytes s k f ≡ big 1 f.second
second_field s f e = rw e

-- the bytes of a field that is a part
pub part_field : (s : Section) (e : FieldValues) (k : ℕ) (d : Codes) → 2 ≤ k → k - 2 < length e.parts → {f : Form} → f ≡ form_of s k
    → field_bytes s k (fields_in e) ≡ part_bytes (element_bytes f) (part_of (get_or e.parts (k - 2) d))
part_field s e zero d h l g = absurd (omega arith)
part_field s e (suc zero) d h l g = absurd (omega arith)
part_field s e (suc (suc k)) d h l g =
    let i : suc (suc k) - 2 ≡ k = omega arith in
    rw (i, g) (ap (part_bytes (element_bytes (form_of s (suc (suc k))))) (getD_map_in part_of e.parts k (Part.listed []) d (omega arith)))
