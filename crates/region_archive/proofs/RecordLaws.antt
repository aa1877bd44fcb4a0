-- The record of a bundle or connection and its fields.
use mathlib.Core.Path.{◌≡◌, refl, sym, ap, ◌∙◌, subst}
use mathlib.Core.Bool.{Bool, true, not, ◌&&◌}
use mathlib.Core.List.{List, ◌++◌}
use Prim.Native.Nat.{ℕ, zero, suc, ◌+◌, ◌*◌, ◌/◌, ◌^◌, ◌≤◌, ◌<◌}
use native.Mathlib.Nat.{mul-le-mul}
use native.Mathlib.Omega.{arith}
use borrow.Author.Tests.{le-leb, leb-true, not-true}
use lib.Dec.{leb, eqb}
use lib.ListN.{length, length-append}
use Rattle.region_graph.specs.Size.{regions, most_provided, most_listed}
use Rattle.region_graph.specs.Lists.{All, member}
use Rattle.region_graph.specs.Model.{Filter, Part}
use Rattle.region_graph.specs.Flat.{Fields, FlatPart}
use Rattle.region_graph.proofs.Storing.{map_id}
use Rattle.region_graph.proofs.Lists.{and_yes, and_fst, and_snd, member_all, concat_length}
use Rattle.region_archive.specs.Bounds.{field_bound}
use Rattle.big_endian.specs.Bytes.{big}
use Rattle.big_endian.proofs.Digits.{big_length}
use Rattle.big_endian.proofs.Delimits.{Delimits, big_same, head_same, tail_same}
use Rattle.region_archive.specs.Image.{part_bytes, plain_package, full_range}
use Rattle.region_archive.specs.Forms.{element_bytes, scale, FormFits, form_of}
use Rattle.region_archive.specs.RecordFields.{bytes_to, SameTo, GoodTo, part_at, first_width, field_count, most_in, row_width, part_open}
use Rattle.region_archive.specs.RecordFields.{PartGood, first_good, second_good, FieldGood, field_bytes, fields_bytes, FieldSame, FlatField}
use Rattle.region_archive.specs.RecordFields.{FlatElem, SameFields, Elem, fields_of, key, most_records, LegalElem}
use Rattle.region_archive.specs.declared.forms.Form.{Form}
use Rattle.region_archive.specs.declared.record_fields.Section.{Section}
use Rattle.region_archive.proofs.CountedLists.{counted_same}
use Rattle.region_archive.proofs.FormLaws.{codes, form_fits}
use Rattle.region_archive.proofs.Versioned.{numbers_formed, packages_formed, entries_formed, formed_list, closed_part, any_part, open_part}
use Rattle.region_archive.proofs.Versioned.{coded, part_coded, part_id, every_or, part_or}
use Rattle.region_archive.proofs.FieldLaws.{FieldKinds, to_same}
use Rattle.region_archive.proofs.Fits.{few_fields, narrow_first}

-- parts tell themselves apart
module _ (f : Form) (most : ℕ) (few : most ≤ most_listed) (all : Bool) where
  pub part_same : Delimits (PartGood f most all) (part_bytes (element_bytes f)) ◌≡◌
  part_same (Part.listed xs) (Part.listed ys) r t h k e =
      let d = counted_same (codes f) most xs ys r t h k e in
      (ap Part.listed d.0, d.1)
  part_same (Part.listed xs) Part.everything r t h k e = absurd (omega (arith, h.few, head_same e))
  part_same Part.everything (Part.listed ys) r t h k e = absurd (omega (arith, k.few, head_same e))
  part_same Part.everything Part.everything r t h k e = (refl, tail_same e)

  -- and are within the bound of a field
  pub part_length : FormFits f → (p : Part ℕ) → PartGood f most all p → length (part_bytes (element_bytes f) p) ≤ field_bound
  part_length g (Part.listed xs) h =
      let few_listed : length xs ≤ most_listed = omega (arith, h.few) in
      omega (arith, concat_length (element_bytes f) f.width (λ c. big_length f.width (c / scale f)) xs, mul-le-mul few_listed g.wide)
  part_length g Part.everything h = omega arith

-- a list of a record has few numbers
pub most_in_few : (s : Section) → most_in s ≤ most_listed
most_in_few (Section.Bundles v) = omega arith
most_in_few (Section.Connections v) = omega arith

-- a row has places for the two numbers
pub wide : (s : Section) → 2 ≤ row_width s
wide (Section.Bundles v) = omega arith
wide (Section.Connections v) = omega arith

-- the same fields have the same bytes
module _ (s : Section) where
  pub field_moved : (k : ℕ) (x y : Fields) → FieldSame k x y → field_bytes s k x ≡ field_bytes s k y
  field_moved zero x y h = ap (big (first_width s)) h
  field_moved (suc zero) x y h = ap (big 1) h
  field_moved (suc (suc k)) x y h = ap (part_bytes (element_bytes (form_of s (suc (suc k))))) h

  to_bytes : (k : ℕ) (x y : Fields) → SameTo FieldSame k x y → bytes_to (field_bytes s) k x ≡ bytes_to (field_bytes s) k y
  to_bytes zero x y h = refl
  to_bytes (suc k) x y h = λ i. to_bytes k x y h.0 i ++ field_moved k x y h.1 i

  pub same_bytes : (x y : Fields) → SameFields s x y → fields_bytes s x ≡ fields_bytes s y
  same_bytes x y h = to_bytes (field_count s) x y h

module _ (s : Section) (rs : List ℕ) (floor : ℕ) where
  -- each field tells itself apart
  pub field_same : (k : ℕ) → Delimits (FieldGood s rs floor k) (field_bytes s k) (FieldSame k)
  field_same zero x y r t h g e = big_same (first_width s) x.first y.first r t h.0 g.0 e
  field_same (suc zero) x y r t h g e = big_same 1 x.second y.second r t h.0 g.0 e
  field_same (suc (suc k)) x y r t h g e = part_same _ (most_in s) (most_in_few s) _ (part_at x k) (part_at y k) r t h g e

  -- what is the same has the same bytes, and is as good
  pub field_moves : (k : ℕ) (x y : Fields) → SameTo FieldSame (suc k) x y
      → (field_bytes s k x ≡ field_bytes s k y) × (FieldGood s rs floor k x → FieldGood s rs floor k y)
  field_moves zero x y h = (field_moved s 0 x y h.1, λ g. subst (λ (n : ℕ). (n < 256 ^ first_width s) × (first_good s rs floor n ≡ true)) h.1 g)
  field_moves (suc zero) x y h = (
    field_moved s 1 x y h.1,
    λ g. (subst (λ (n : ℕ). n < 256) h.1 g.0, (λ i. second_good s rs floor (sym h.0.1 i) (sym h.1 i)) ∙ g.1),
  )
  field_moves (suc (suc k)) x y h = (field_moved s (suc (suc k)) x y h.1, λ g. subst (PartGood (form_of s (suc (suc k))) (most_in s) _) h.1 g)

  abbrev pub record_fields : FieldKinds Fields
  record_fields = record { good = FieldGood s rs floor; bytes = field_bytes s; same = FieldSame; delim = field_same; moves = field_moves }

  pub fields_same : Delimits (GoodTo (FieldGood s rs floor) (field_count s)) (fields_bytes s) (SameFields s)
  fields_same = to_same record_fields (field_count s)

module _ (rs : List ℕ) (floor : ℕ) where
  -- the element that has good fields
  pub record Element (s : Section) (f : Fields) : Type 0 where
    pub elem : Elem s
    pub same : SameFields s f (fields_of s elem)
    pub legal : LegalElem s rs elem
    pub high : floor ≤ key s elem

  pub element_of : (s : Section) (f : Fields) → GoodTo (FieldGood s rs floor) (field_count s) f → Element s f
  unfolding form_of
  element_of (Section.Bundles v) f h =
      let second = h.0.0.1.1 in
      let packages = closed_part (packages_formed v) most_provided (part_at f 0) h.0.1 in
      let services = closed_part numbers_formed most_provided (part_at f 1) h.1 in
      let held = and_snd (leb floor f.first) (member f.second rs) second in
      record {
        elem = record { location = f.first; region = f.second; packages = packages.items; services = services.items };
        same = ((((tt, refl), refl), packages.is_list), services.is_list ∙ ap Part.listed (map_id services.items));
        legal = (
          record { location = h.0.0.0.1.0; region = held; packages = packages.in_order; services = services.in_order },
          sym (every_or (leb 3 v) plain_package packages.items) ∙ packages.all_plain,
        );
        high = leb-true floor f.first (and_fst (leb floor f.first) (member f.second rs) second);
      }
  element_of (Section.Connections v) f h =
      let first = h.0.0.0.0.1.1 in
      let second = h.0.0.0.1.1 in
      let order = f.first * 256 + f.second in
      let apart = not (eqb f.first f.second) in
      let ends = and_snd (leb floor order) (apart && member f.second rs) second in
      let bundles = closed_part numbers_formed most_listed (part_at f 0) h.0.0.1 in
      let packages = any_part (entries_formed v) (part_at f 1) h.0.1 in
      let services = any_part numbers_formed (part_at f 2) h.1 in
      let filter : Filter = record { bundles = bundles.items; packages = packages.part; services = services.part } in
      record {
        elem = record { source = f.first; target = f.second; filter = filter };
        same = (
          ((((tt, refl), refl), bundles.is_list ∙ ap Part.listed (map_id bundles.items)), packages.is_part),
          services.is_part ∙ part_id services.part,
        );
        legal = (
          record {
            source = and_snd (leb floor (f.first * 256 + 255)) (member f.first rs) first;
            target = and_snd apart (member f.second rs) ends;
            differ = not-true (eqb f.first f.second) (and_fst apart (member f.second rs) ends);
            filter = record { bundles = bundles.in_order; packages = packages.in_order; services = services.in_order };
          },
          sym (part_or (leb 3 v) full_range packages.part) ∙ packages.all_plain,
        );
        high = leb-true floor order (and_fst (leb floor order) (apart && member f.second rs) second);
      }

  -- the fields of a legal element are good
  module _ (small : All (λ r. r < regions) rs) where
    region_small : (r : ℕ) → member r rs ≡ true → r < regions
    region_small r e = member_all (λ n. n < regions) r rs small e

    pub element_good : (s : Section) (x : Elem s) → LegalElem s rs x → floor ≤ key s x → GoodTo (FieldGood s rs floor) (field_count s) (fields_of s x)
    unfolding form_of
    element_good (Section.Bundles v) b l h =
        let high = le-leb floor b.location h in
        let region = region_small b.region l.0.region in
        let packages = formed_list (packages_formed v) b.packages l.0.packages (every_or (leb 3 v) plain_package b.packages ∙ l.1) in
        ((((tt, (l.0.location, and_yes high refl)), (omega arith, and_yes high l.0.region)), packages), coded b.services l.0.services)
    element_good (Section.Connections v) c l h =
        let k = l.0 in
        let source = region_small c.source k.source in
        let target = region_small c.target k.target in
        let first = and_yes (le-leb floor (c.source * 256 + 255) (omega arith)) k.source in
        let second = and_yes (le-leb floor (c.source * 256 + c.target) h) (and_yes (ap not k.differ) k.target) in
        let packages =
        open_part (entries_formed v) c.filter.packages k.filter.packages (part_or (leb 3 v) full_range c.filter.packages ∙ l.1) in
        let services = part_coded c.filter.services k.filter.services in
        (((((tt, (omega arith, first)), (omega arith, second)), coded c.filter.bundles k.filter.bundles), packages), services)

-- the numbers of an element stand in a row where its fields do
pub flat_of : (s : Section) (row : List ℕ) (f : Fields) (x : Elem s) → SameFields s f (fields_of s x)
    → GoodTo (FlatField (most_in s) row) (field_count s) f → FlatElem s row x
flat_of (Section.Bundles v) row f x h g = record {
  first = g.0.0.0.1 ∙ h.0.0.0.1;
  second = g.0.0.1 ∙ h.0.0.1;
  parts = (subst (FlatPart row 2) h.0.1 g.0.1, (subst (FlatPart row 11) h.1 g.1, tt));
}
flat_of (Section.Connections v) row f x h g =
    let bundles = subst (FlatPart row 2) h.0.0.1 g.0.0.1 in
    let packages = subst (FlatPart row 19) h.0.1 g.0.1 in
    let services = subst (FlatPart row 36) h.1 g.1 in
    record { first = g.0.0.0.0.1 ∙ h.0.0.0.0.1; second = g.0.0.0.1 ∙ h.0.0.0.1; parts = (bundles, (packages, (services, tt))) }

-- a section has few records
pub most_small : (s : Section) → most_records s < 256
most_small (Section.Bundles v) = omega arith
most_small (Section.Connections v) = omega arith

-- how long the fields of a record can be
module _ (s : Section) (rs : List ℕ) (floor : ℕ) where
  field_length : (k : ℕ) (f : Fields) → FieldGood s rs floor k f → length (field_bytes s k f) ≤ field_bound
  field_length zero f h = omega (arith, big_length (first_width s) f.first, narrow_first s)
  field_length (suc zero) f h = omega arith
  field_length (suc (suc k)) f h =
      part_length _ (most_in s) (most_in_few s) (part_open s (suc (suc k))) (form_fits s (suc (suc k))) (part_at f k) h

  fields_length : (n : ℕ) (f : Fields) → GoodTo (FieldGood s rs floor) n f → length (bytes_to (field_bytes s) n f) ≤ n * field_bound
  fields_length zero f h = omega arith
  fields_length (suc n) f h = rw length-append (omega (arith, field_length n f h.1, fields_length n f h.0))

  pub fields_small : (f : Fields) → GoodTo (FieldGood s rs floor) (field_count s) f → length (fields_bytes s f) < 256 ^ 2
  fields_small f h = omega (arith, fields_length (field_count s) f h, few_fields s)
