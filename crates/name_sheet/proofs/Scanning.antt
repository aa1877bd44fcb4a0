-- A loop over the entries of a sheet: what it found so far, and what a lookup answers at its end.
use mathlib.Core.Path.{◌≡◌, refl, sym, ap, ◌∙◌}
use mathlib.Core.Bool.{Bool, true, false}
use mathlib.Core.List.{List, [], ◌∷◌, ◌++◌, append-nil}
use Prim.Native.Nat.{ℕ, ◌+◌, ◌≤◌, ◌<◌}
use native.Mathlib.Omega.{arith}
use lib.Dec.{eqb}
use lib.ListN.{length, drop, length-append}
use lib.Seq.{drop-length}
use Rattle.std.specs.Prelude.{Option, None, Some, Err, ok_or}
use Rattle.std.specs.Option.{option_or}
use Rattle.region_graph.specs.Refusals.{not_refused, no_entry}
use Rattle.region_graph.specs.declared.refusals.Refusal.TheVariants as Refusal
use Rattle.region_graph.specs.Lists.{pick, exists}
use Rattle.big_endian.specs.Parsing.{Parsed}
use Rattle.big_endian.proofs.Rows.{Going, NoNext, going_none, going_more, row_broken}
use Rattle.name_sheet.specs.Sheet.{Entry, LegalSheetEntry, LegalEntries, entry_bytes, entries_bytes, sheet}
use Rattle.name_sheet.specs.File.{means, means_none, matches, name_span, front_length, head_length}
use Rattle.name_sheet.specs.declared.sheet.NamePlace.{NamePlace}
use Rattle.name_sheet.specs.Promise.{Located, located_by, Locates}
use Rattle.name_sheet.specs.Reading.{StartsAsSheet}
use Rattle.name_sheet.proofs.EntryLaws.{entry_length, key, entry_elements}
use Rattle.name_sheet.proofs.OneSheet.{sheet_rest, one_sheet, whole_sheet}

-- bytes that are no sheet are refused with 18
pub broken_located : {s : List ℕ} (kind number : ℕ) → ((es : List Entry) → LegalEntries es → sheet es ≡ s → ⊥)
    → Locates s kind number (Err Refusal.BrokenSheet)
broken_located kind number u (means es l e) = absurd (u es l e)
broken_located kind number u (means_none n) = refl

-- where the part that was found is, or that there is none
abbrev pub part_or_none : Option NamePlace → Located
part_or_none part = located_by (ok_or part Refusal.NoEntry)

-- what was found before, or the part of one entry more where that is the one that is looked for
abbrev pub noted : Located → Bool → ℕ → ℕ → Located
noted found here from to =
    pick (eqb found.refusal not_refused) found (pick here (record { refusal = not_refused; from = from; to = to }) found)

-- of an entry that is the one, and of another one
pub noted_here : (found : Option NamePlace) (from to : ℕ) {here : Bool} → here ≡ true
    → part_or_none (option_or found (Some (record { start = from; end = to }))) ≡ noted (part_or_none found) here from to
noted_here None from to e = rw e refl
noted_here (Some part) from to e = refl

pub noted_other : (found : Option NamePlace) (from to : ℕ) {here : Bool} → here ≡ false → part_or_none found ≡ noted (part_or_none found) here from to
noted_other None from to e = rw e refl
noted_other (Some part) from to e = refl

module _ (kind number : ℕ) where
  -- what is found in entries that begin at a place
  abbrev pub found_in : ℕ → List Entry → Located
  found_in at es =
      let span = name_span kind number at es in
      record { refusal = pick (exists (matches kind number) es) not_refused no_entry; from = span.from; to = span.to }

  -- one entry more
  found_snoc : (at : ℕ) (es : List Entry) (e : Entry) {from to : ℕ} → from ≡ at + length (entries_bytes es) + head_length
      → to ≡ from + length e.name → found_in at (es ++ (e ∷ [])) ≡ noted (found_in at es) (matches kind number e) from to
  found_snoc at [] e {from} {to} f g = go (matches kind number e) refl
    where
      here : from ≡ at + head_length
      here = omega (arith, f)

      there : to ≡ at + head_length + length e.name
      there = omega (arith, g, here)

      go : (b : Bool) → matches kind number e ≡ b → found_in at (e ∷ []) ≡ noted (found_in at []) (matches kind number e) from to
      go true h = rw h (λ i. record { refusal = not_refused; from = sym here i; to = sym there i })
      go false h = rw h refl
  found_snoc at (x ∷ es) e {from} {to} f g =
      go (matches kind number x) refl
      (found_snoc (at + length (entry_bytes x)) es e (omega (arith, f, length-append (entry_bytes x) (entries_bytes es))) g)
    where
      go : (b : Bool) → matches kind number x ≡ b
          → (let later = at + length (entry_bytes x) in
          found_in later (es ++ (e ∷ [])) ≡ noted (found_in later es) (matches kind number e) from to)
          → found_in at (x ∷ (es ++ (e ∷ []))) ≡ noted (found_in at (x ∷ es)) (matches kind number e) from to
      go true h r = rw h refl
      go false h r = rw h r

-- the entries up to a place were read, in order, and what was found in them
pub record Scanning (s : List ℕ) (kind number at least : ℕ) (found : Option NamePlace) : Type 0 where
  pub rows : List Entry
  pub going : Going entry_elements s front_length rows at least
  pub found_is : part_or_none found ≡ found_in kind number front_length rows

module _ {s : List ℕ} {kind number : ℕ} where
  pub scan_start : front_length ≤ length s → Scanning s kind number front_length 0 None
  scan_start h = record { rows = []; going = going_none entry_elements h; found_is = refl }

  module _ {at least : ℕ} {found : Option NamePlace} (w : Scanning s kind number at least found) where
    pub scan_more : {e : Entry} {next : ℕ} → Parsed LegalSheetEntry entry_bytes s at e next → least ≤ key e → {after : Option NamePlace}
        → part_or_none after ≡ noted (part_or_none found) (matches kind number e) (at + head_length) next
        → Scanning s kind number next (key e + 1) after
    scan_more {e} {next} p h f = record {
      rows = w.rows ++ (e ∷ []);
      going = going_more entry_elements w.going p h;
      found_is =
          f ∙ ap (λ (l : Located). noted l (matches kind number e) (at + head_length) next) w.found_is
          ∙ sym (found_snoc kind number front_length w.rows e from to);
    }
      where
        from : at + head_length ≡ front_length + length (entries_bytes w.rows) + head_length
        from = omega (arith, w.going.ends)

        to : next ≡ at + head_length + length e.name
        to = omega (arith, p.ends, entry_length e)

    -- at the end of the file these are its entries
    pub scan_end : StartsAsSheet s → at ≡ length s → Locates s kind number (ok_or found Refusal.NoEntry)
    scan_end o e = answer
      where
        rest : drop front_length s ≡ entries_bytes w.rows
        rest =
            w.going.shape ∙ ap (λ (n : ℕ). entries_bytes w.rows ++ drop n s) e
            ∙ ap (λ (l : List ℕ). entries_bytes w.rows ++ l) (drop-length s) ∙ append-nil (entries_bytes w.rows)

        whole : LegalEntries w.rows × (sheet w.rows ≡ s)
        whole = whole_sheet o w.rows w.going.every w.going.ascend rest

        answer : Locates s kind number (ok_or found Refusal.NoEntry)
        answer (means es l f) = w.found_is ∙ ap (found_in kind number front_length) (one_sheet w.rows es whole.0 l (whole.1 ∙ sym f))
        answer (means_none n) = absurd (n w.rows whole.0 whole.1)

    -- before it, where no entry can follow, the file is no sheet
    pub scan_broken : at < length s → NoNext entry_elements s at least → Locates s kind number (Err Refusal.BrokenSheet)
    scan_broken h u =
        broken_located kind number
        (λ es l e. row_broken entry_elements w.going h u es l.each l.ascend (ap (drop front_length) (sym e) ∙ sheet_rest es))
