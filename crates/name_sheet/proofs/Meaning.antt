-- Each file means something as a sheet; the part that a lookup gives lies in the file and has the bytes of the name; each entry's own name is
-- found.
use mathlib.Core.Path.{◌≡◌, refl, sym, ap, subst, ◌∙◌}
use mathlib.Core.Bool.{Bool, true, false}
use mathlib.Core.List.{List, [], ◌∷◌, ◌++◌}
use mathlib.Core.Logic.{⊎_elim}
use Prim.Native.Nat.{ℕ, ◌+◌, ◌-◌, ◌^◌, ◌≤◌, ◌<◌}
use native.Mathlib.Omega.{arith}
use borrow.Author.Tests.{ltb-true, eq-eqb, eqb-true}
use lib.Dec.{eqb}
use lib.ListN.{length, take, drop, length-append, length-drop}
use lib.Seq.{length-take-le, drop-drop, drop_at, take_at}
use Rattle.std.specs.Prelude.{Result, Ok}
use Rattle.region_graph.specs.declared.refusals.Refusal.{Refusal}
use Rattle.region_graph.specs.Lists.{pick, exists, All, ascends}
use Rattle.region_graph.proofs.Lists.{and_yes, and_fst, and_snd}
use Rattle.region_graph.proofs.Ascending.{or_right}
use Rattle.big_endian.proofs.Tested.{Tested, tested_le, tested_lt, tested_true, tested_both, tested_as, tested_all}
use Rattle.big_endian.proofs.SomeOrNone.{some_or_none}
use Rattle.name_sheet.specs.Sheet.{greatest_kind, longest_name}
use Rattle.name_sheet.specs.Sheet.{Entry, Printable, LegalSheetEntry, LegalEntries, sheet_entry_before, entry_bytes, entries_bytes, sheet}
use Rattle.name_sheet.specs.File.{SheetMeaning, means, means_none, Span, sheet_entries, matches, name_span, front_length, head_length}
use Rattle.name_sheet.specs.declared.sheet.NamePlace.{NamePlace}
use Rattle.name_sheet.specs.Promise.{Located, located_by, located, Locates, between}
use Rattle.name_sheet.proofs.EntryLaws.{entry_length, key, entry_elements}
use Rattle.name_sheet.proofs.OneSheet.{sheet_rest, sheet_length, entries_read, entries_back}

-- whether an entry, and a list of entries, is legal
tested_byte : (c : ℕ) → Tested (Printable c)
tested_byte c =
    tested_as (λ t. record { least = t.0; most = t.1 }) (λ h. (h.least, h.most)) (tested_both (tested_le 0x20 c) (tested_le c 0x7E))

tested_entry : (e : Entry) → Tested (LegalSheetEntry e)
tested_entry e =
    tested_as (λ t. record { kind = t.0; number = t.1.0; some = t.1.1.0; few = t.1.1.1.0; text = t.1.1.1.1 })
    (λ h. (h.kind, (h.number, (h.some, (h.few, h.text)))))
    (tested_both (tested_le e.kind greatest_kind)
    (tested_both (tested_lt e.number (2 ^ 32))
    (tested_both (tested_le 1 (length e.name))
    (tested_both (tested_le (length e.name) longest_name) (tested_all Printable tested_byte e.name)))))

tested_entries : (es : List Entry) → Tested (LegalEntries es)
tested_entries es =
    tested_as (λ t. record { each = t.0; ascend = t.1.0; fits = t.1.1 }) (λ h. (h.each, (h.ascend, h.fits)))
    (tested_both (tested_all LegalSheetEntry tested_entry es)
    (tested_both (tested_true (ascends sheet_entry_before es)) (tested_lt (length (entries_bytes es)) (2 ^ 32))))

-- every list of numbers has a meaning
pub sheet_meaning : (bytes : List ℕ) → SheetMeaning bytes
sheet_meaning bytes = ⊎_elim (λ h. means h.0 h.1 h.2) (λ n. means_none n) (some_or_none sheet tested_entries entries_read entries_back bytes)

-- what holds of both holds of either
pick_either : {A : Type 0} (P : A → Type 0) (b : Bool) {x y : A} → P x → P y → P (pick b x y)
pick_either P true h k = h
pick_either P false h k = k

-- the name of the entry with a kind and number; nothing where there is none
abbrev pub name_of : ℕ → ℕ → List Entry → List ℕ
name_of kind number [] = []
name_of kind number (e ∷ es) = pick (matches kind number e) e.name (name_of kind number es)

-- the part of a name, in entries that begin at a place
module _ (kind number : ℕ) where
  abbrev span : ℕ → List Entry → Span
  span = name_span kind number

  span_ordered : (at : ℕ) (es : List Entry) → (span at es).from ≤ (span at es).to
  span_ordered at [] = omega arith
  span_ordered at (e ∷ es) =
      pick_either (λ (p : Span). p.from ≤ p.to) (matches kind number e) (omega arith) (span_ordered (at + length (entry_bytes e)) es)

  span_within : (at : ℕ) (es : List Entry) → (span at es).to ≤ at + length (entries_bytes es)
  span_within at [] = omega arith
  span_within at (e ∷ es) =
      let both = length-append (entry_bytes e) (entries_bytes es) in
      pick_either (λ (p : Span). p.to ≤ at + length (entries_bytes (e ∷ es))) (matches kind number e) (omega (arith, entry_length e, both))
      (omega (arith, span_within (at + length (entry_bytes e)) es, both))

  -- it has the bytes of the name
  span_name : (at : ℕ) (es : List Entry) (s : List ℕ) → drop at s ≡ entries_bytes es
      → between s (span at es).from (span at es).to ≡ name_of kind number es
  span_name at [] s h = refl
  span_name at (e ∷ es) s h = go (matches kind number e) refl (span_name (at + length (entry_bytes e)) es s later)
    where
      later : drop (at + length (entry_bytes e)) s ≡ entries_bytes es
      later =
          sym (drop-drop (length (entry_bytes e)) at s) ∙ ap (drop (length (entry_bytes e))) h
          ∙ drop_at (entry_bytes e) (entries_bytes es) (length (entry_bytes e)) refl

      here : drop (at + head_length) s ≡ e.name ++ entries_bytes es
      here = sym (drop-drop head_length at s) ∙ ap (drop head_length) h

      go : (b : Bool) → matches kind number e ≡ b
          → (let p = span (at + length (entry_bytes e)) es in between s p.from p.to) ≡ name_of kind number es
          → between s (span at (e ∷ es)).from (span at (e ∷ es)).to ≡ name_of kind number (e ∷ es)
      go true k r =
          let n : at + head_length + length e.name - (at + head_length) ≡ length e.name = omega arith in
          rw k (ap (λ (m : ℕ). take m (drop (at + head_length) s)) n ∙ ap (take (length e.name)) here
          ∙ take_at e.name (entries_bytes es) (length e.name) refl)
      go false k r = rw k r

module _ {s : List ℕ} (f : SheetMeaning s) (kind number : ℕ) where
  pub part_ordered : (located f kind number).from ≤ (located f kind number).to
  part_ordered = span_ordered kind number front_length (sheet_entries f)

pub part_within : {s : List ℕ} (f : SheetMeaning s) (kind number : ℕ) → (located f kind number).to ≤ length s
part_within (means es l e) kind number = omega (arith, span_within kind number front_length es, sheet_length es, ap length e)
part_within (means_none n) kind number = omega arith

-- what was located lies in the sheet
pub located_inside : (s : List ℕ) (kind number : ℕ) (r : Result NamePlace Refusal) (part : NamePlace) → r ≡ Ok part → Locates s kind number r
    → (part.start ≤ part.end) × (part.end ≤ length s)
located_inside s kind number r part e h =
    let f = sheet_meaning s in
    subst (λ (l : Located). (l.from ≤ l.to) × (l.to ≤ length s)) (sym (subst (λ q. located_by q ≡ located f kind number) e (h f)))
    (part_ordered f kind number, part_within f kind number)

-- the part that a lookup gives has the bytes of the name
pub the_name : {s : List ℕ} (f : SheetMeaning s) (kind number : ℕ)
    → between s (located f kind number).from (located f kind number).to ≡ name_of kind number (sheet_entries f)
the_name {s} (means es l e) kind number = span_name kind number front_length es s (ap (drop front_length) (sym e) ∙ sheet_rest es)
the_name (means_none n) kind number = refl

-- and no more bytes than a name may have
name_few : (kind number : ℕ) (es : List Entry) → All LegalSheetEntry es → length (name_of kind number es) ≤ longest_name
name_few kind number [] h = omega arith
name_few kind number (e ∷ es) h =
    pick_either (λ (l : List ℕ). length l ≤ longest_name) (matches kind number e) h.0.few (name_few kind number es h.1)

pub part_size : {s : List ℕ} (f : SheetMeaning s) (kind number : ℕ)
    → (located f kind number).to - (located f kind number).from ≡ length (name_of kind number (sheet_entries f))
part_size {s} f kind number =
    let r = located f kind number in
    sym (length-take-le (r.to - r.from) (drop r.from s) (omega (arith, length-drop r.from s, part_within f kind number)))
    ∙ ap length (the_name f kind number)

pub part_few : {s : List ℕ} (f : SheetMeaning s) (kind number : ℕ) → (located f kind number).to - (located f kind number).from ≤ longest_name
part_few f kind number = omega (arith, part_size f kind number, few f)
  where
    few : {s : List ℕ} (f : SheetMeaning s) → length (name_of kind number (sheet_entries f)) ≤ longest_name
    few (means es l e) = name_few kind number es l.each
    few (means_none n) = omega arith

-- an entry's own name is the one that is found: no entry before it has its kind and number
below : (x : Entry) (xs : List Entry) (e : Entry) (ys : List Entry) → All LegalSheetEntry (x ∷ (xs ++ (e ∷ ys)))
    → ascends sheet_entry_before (x ∷ (xs ++ (e ∷ ys))) ≡ true → key x < key e
below x [] e ys h a =
    ltb-true (key x) (key e) (sym (entry_elements.keyed x e h.0 h.1.0) ∙ and_fst (sheet_entry_before x e) (ascends sheet_entry_before (e ∷ ys)) a)
below x (y ∷ xs) e ys h a =
    let rest = ascends sheet_entry_before (y ∷ (xs ++ (e ∷ ys))) in
    omega (
      arith,
      ltb-true (key x) (key y) (sym (entry_elements.keyed x y h.0 h.1.0) ∙ and_fst (sheet_entry_before x y) rest a),
      below y xs e ys h.1 (and_snd (sheet_entry_before x y) rest a),
    )

later : (x : Entry) (xs : List Entry) → ascends sheet_entry_before (x ∷ xs) ≡ true → ascends sheet_entry_before xs ≡ true
later x [] a = refl
later x (y ∷ xs) a = and_snd (sheet_entry_before x y) (ascends sheet_entry_before (y ∷ xs)) a

module _ (e : Entry) (ys : List Entry) where
  -- the entry has its own kind and number
  itself : matches e.kind e.number e ≡ true
  itself = and_yes (eq-eqb e.kind e.kind refl) (eq-eqb e.number e.number refl)

  pub own_entry : (xs : List Entry) → exists (matches e.kind e.number) (xs ++ (e ∷ ys)) ≡ true
  own_entry [] = rw itself refl
  own_entry (x ∷ xs) = or_right (matches e.kind e.number x) (own_entry xs)

  pub own_name : (xs : List Entry) → All LegalSheetEntry (xs ++ (e ∷ ys)) → ascends sheet_entry_before (xs ++ (e ∷ ys)) ≡ true
      → name_of e.kind e.number (xs ++ (e ∷ ys)) ≡ e.name
  own_name [] h a = rw itself refl
  own_name (x ∷ xs) h a = go (matches e.kind e.number x) refl (own_name xs h.1 (later x (xs ++ (e ∷ ys)) a))
    where
      other : matches e.kind e.number x ≡ true → ⊥
      other m =
          let k = eqb-true x.kind e.kind (and_fst (eqb x.kind e.kind) (eqb x.number e.number) m) in
          let n = eqb-true x.number e.number (and_snd (eqb x.kind e.kind) (eqb x.number e.number) m) in
          omega (arith, below x xs e ys h a, k, n)

      go : (b : Bool) → matches e.kind e.number x ≡ b → name_of e.kind e.number (xs ++ (e ∷ ys)) ≡ e.name
          → name_of e.kind e.number (x ∷ (xs ++ (e ∷ ys))) ≡ e.name
      go true m r = absurd (other m)
      go false m r = rw m r
