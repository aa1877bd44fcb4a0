-- Names: every way to look one up gives what the file means.
use mathlib.Core.Path.{◌≡◌, refl, sym, ap, ◌∙◌, subst}
use mathlib.Core.Bool.{Bool, true, false}
use mathlib.Core.List.{List, ◌∷◌, ◌++◌}
use Prim.Native.Nat.{ℕ, ◌+◌, ◌-◌, ◌^◌, ◌≤◌, ◌<◌}
use native.Mathlib.Omega.{arith}
use borrow.Author.Tests.{eqb-true, eqb-false, ne_eqb}
use lib.Dec.{eqb}
use lib.ListN.{length, drop, length-drop}
use lib.Seq.{length-take-le}
use Rattle.std.specs.Prelude.{Ok, Err}
use Rattle.region_graph.specs.Refusals.{not_refused, no_entry, refusal_number}
use Rattle.region_graph.specs.Lists.{pick, exists}
use Rattle.region_graph.proofs.Lists.{pick_no}
use Rattle.region_graph.proofs.Storing.{refusal_numbered}
use Rattle.name_sheet.specs.Sheet.{Entry, LegalEntries, sheet}
use Rattle.name_sheet.specs.File.{SheetMeaning, means, means_none, matches, lookup_number}
use Rattle.name_sheet.specs.Promise.{Located, located, between}
use Rattle.name_sheet.proofs.OneSheet.{one_sheet}
use Rattle.name_sheet.proofs.Meaning.{sheet_meaning, part_ordered, part_within, part_size, part_few, name_of, the_name, own_entry, own_name}
use Rattle.region_host.specs.CNumbers.{negative, read_back}
use Rattle.region_host.specs.CNames.{CName, name_for_c}
use Rattle.region_host.proofs.ReadBack.{count_back, number_back}
use Rattle.demands.specs.Names.{Lookup, named, unnamed, lookup_refusal, NameIn, NamesGiven, given_as, ValueLookup, by_locate, by_lookup, by_lookup_part}
use Rattle.demands.specs.Names.{LentLookup, by_region_name, StartKept}

-- the number of what is given
refusal_back : (r : Located) → lookup_refusal (given_as r) ≡ r.refusal
refusal_back r = go (eqb r.refusal not_refused) refl
  where
    go : (b : Bool) → eqb r.refusal not_refused ≡ b → lookup_refusal (given_as r) ≡ r.refusal
    go true e = rw e (sym (eqb-true r.refusal not_refused e))
    go false e = rw e refl

-- it is 0, 18 or 19
refusal_most : {s : List ℕ} (f : SheetMeaning s) (kind number : ℕ) → lookup_number f kind number ≤ no_entry
refusal_most (means es l e) kind number = go (exists (matches kind number) es) refl
  where
    go : (b : Bool) → exists (matches kind number) es ≡ b → pick (exists (matches kind number) es) not_refused no_entry ≤ no_entry
    go true h = rw h (omega arith)
    go false h = rw h (omega arith)
refusal_most (means_none n) kind number = omega arith

module _ (xs : List Entry) (e : Entry) (ys : List Entry) (l : LegalEntries (xs ++ (e ∷ ys))) where
  abbrev all : List Entry
  all = xs ++ (e ∷ ys)

  abbrev place : Located
  place = located {bytes = sheet all} (means all l refl) e.kind e.number

  name_given : NameIn (sheet all) e.name (given_as place)
  name_given = record {
    from = place.from;
    given = rw (own_entry e ys xs) (ap (named place.from) size);
    bytes = ap (between (sheet all) place.from) ends ∙ the_name {s = sheet all} (means all l refl) e.kind e.number ∙ own;
  }
    where
      own : name_of e.kind e.number all ≡ e.name
      own = own_name e ys xs l.each l.ascend

      size : place.to - place.from ≡ length e.name
      size = part_size {s = sheet all} (means all l refl) e.kind e.number ∙ ap length own

      ends : place.from + length e.name ≡ place.to
      ends = omega (arith, size, part_ordered {s = sheet all} (means all l refl) e.kind e.number)

-- what is given is what the file means
record Gives (looks : List ℕ → ℕ → ℕ → Lookup → Type 0) : Type 0 where
  gives : {s : List ℕ} {kind number : ℕ} {a : Lookup} → looks s kind number a → (f : SheetMeaning s) → a ≡ given_as (located f kind number)

given_names : {looks : List ℕ → ℕ → ℕ → Lookup → Type 0} → Gives looks → NamesGiven looks
given_names h = record {
  asked = λ {s} {kind} {number} w f.
      let r = ap lookup_refusal (h.gives w f) ∙ refusal_back (located f kind number) in
      (r, subst (λ (n : ℕ). n ≤ no_entry) (sym r) (refusal_most f kind number));
  broken = λ w u. h.gives w (means_none u);
  missing = λ {es} w l e. h.gives w (means es l refl) ∙ rw e refl;
  found = λ xs e ys w l. subst (NameIn (sheet (xs ++ (e ∷ ys))) e.name) (sym (h.gives w (means (xs ++ (e ∷ ys)) l refl))) (name_given xs e ys l);
  one_sheet = one_sheet;
}

value_given : {s : List ℕ} {kind number : ℕ} {a : Lookup} → ValueLookup s kind number a → (f : SheetMeaning s) → a ≡ given_as (located f kind number)
value_given (by_locate κs s kind number r p) f = ap given_as (p f)
value_given (by_lookup κs s kind number from (Ok part) p at) f =
    let r = located f kind number in
    let q = p f in
    let size : length part.now ≡ r.to - r.from =
    ap length q.part.bytes
    ∙ length-take-le (r.to - r.from) (drop r.from s.now) (omega (arith, length-drop r.from s.now, part_within f kind number)) in
    let start : from ≡ r.from = omega (arith, at, q.part.offset) in
    λ i. pick (eqb (q.refusal i) not_refused) (named (start i) (size i)) (unnamed (q.refusal i))
value_given (by_lookup κs s kind number from (Err refusal) p at) f =
    let r = located f kind number in
    let q = p f in
    sym (pick_no (named r.from (r.to - r.from)) (unnamed (refusal_number refusal)) (ne_eqb (refusal_number refusal) not_refused (refusal_numbered refusal)))
    ∙ (λ i. pick (eqb (q.refusal i) not_refused) (named r.from (r.to - r.from)) (unnamed (q.refusal i)))
value_given (by_lookup_part κs s kind number from r p at) f =
    let l = located f kind number in
    let q = p f in
    let size : length r.0.now ≡ l.to - l.from =
    ap length q.part.bytes
    ∙ length-take-le (l.to - l.from) (drop l.from s.now) (omega (arith, length-drop l.from s.now, part_within f kind number)) in
    let start : from ≡ l.from = omega (arith, at, q.part.offset) in
    let end : from + length r.0.now ≡ l.to = omega (arith, start, size, part_ordered f kind number) in
    λ i. given_as (record { refusal = q.refusal i; from = start i; to = end i })

pub names_by_value : NamesGiven ValueLookup
names_by_value = given_names (record { gives = value_given })

-- what C gets, of a name that is there and of one that is not
abbrev c_name : ℕ → ℕ → CName
c_name v start = record { value = v; start = start }

module _ (r : Located) (before : ℕ) {v after : ℕ} (e : c_name v after ≡ name_for_c r before) where
  c_named : eqb r.refusal not_refused ≡ true → c_name v after ≡ c_name (r.to - r.from) r.from
  c_named t = e ∙ rw t refl

  c_refused : eqb r.refusal not_refused ≡ false → c_name v after ≡ c_name (negative r.refusal) before
  c_refused t = e ∙ rw t refl

  -- what C reads in the number
  c_given : r.to - r.from < 2 ^ 63 → r.refusal ≤ 100 → read_back (named after) unnamed v ≡ given_as r
  c_given h k = go (eqb r.refusal not_refused) refl
    where
      reads : CName → Lookup
      reads c = read_back (named c.start) unnamed c.value

      go : (b : Bool) → eqb r.refusal not_refused ≡ b → reads (c_name v after) ≡ given_as r
      go true t = ap reads (c_named t) ∙ count_back (named r.from) unnamed (r.to - r.from) h ∙ rw t refl
      go false t =
          let some : 0 < r.refusal = omega (arith, eqb-false r.refusal not_refused t) in
          ap reads (c_refused t) ∙ number_back (named before) unnamed r.refusal some (omega (arith, k)) ∙ rw t refl

lent_given : {s : List ℕ} {kind number : ℕ} {a : Lookup} → LentLookup s kind number a → (f : SheetMeaning s) → a ≡ given_as (located f kind number)
lent_given (by_region_name κs s was is kind number v p) f =
    c_given (located f kind number) was.now (p f) (omega (arith, part_few f kind number)) (omega (arith, refusal_most f kind number))

pub names_lent : NamesGiven LentLookup
names_lent = given_names (record { gives = lent_given })

pub start_kept : StartKept
start_kept κs s was is kind number v p h = go (eqb (located f kind number).refusal not_refused) refl
  where
    f : SheetMeaning s.now
    f = sheet_meaning s.now

    go : (b : Bool) → eqb (located f kind number).refusal not_refused ≡ b → is.now ≡ was.now
    go true t = absurd (omega (arith, h, ap (λ (c : CName). c.value) (c_named (located f kind number) was.now (p f) t), part_few f kind number))
    go false t = ap (λ (c : CName). c.start) (c_refused (located f kind number) was.now (p f) t)
