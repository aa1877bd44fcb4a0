-- Request C-11, checks 18 and 19: what a file means as a sheet, and where the name of a kind and number stands in it.
use Rattle.std.specs.Prelude.{◌≡◌, Bool, true, false, ◌&&◌, List, [], ◌∷◌, ℕ, ◌+◌, eqb, length}
use Rattle.region_graph.specs.Refusals.{broken_sheet, no_entry}
use Rattle.region_graph.specs.Lists.{pick, exists}
use Rattle.region_graph.specs.Calls.{Question, ask, first_no}
use Rattle.name_sheet.specs.Sheet.{Entry, LegalEntries, entry_bytes, sheet}

-- a file is the sheet of legal entries, or of none
pub data SheetMeaning (bytes : List ℕ) : Type 0 where
  means : (es : List Entry) → LegalEntries es → sheet es ≡ bytes → SheetMeaning bytes
  means_none : ((es : List Entry) → LegalEntries es → sheet es ≡ bytes → ⊥) → SheetMeaning bytes

abbrev pub is_sheet : {bytes : List ℕ} → SheetMeaning bytes → Bool
is_sheet (means es l e) = true
is_sheet (means_none n) = false

-- the entries of the sheet, or none
abbrev pub sheet_entries : {bytes : List ℕ} → SheetMeaning bytes → List Entry
sheet_entries (means es l e) = es
sheet_entries (means_none n) = []

-- an entry has the kind and number
abbrev pub matches : ℕ → ℕ → Entry → Bool
matches kind number e = eqb e.kind kind && eqb e.number number

abbrev pub lookup_questions : {bytes : List ℕ} → SheetMeaning bytes → ℕ → ℕ → List Question
lookup_questions f kind number =
    ask broken_sheet (is_sheet f)
    ∷ ask no_entry (exists (matches kind number) (sheet_entries f))
    ∷ []

-- the number that a lookup returns: 0 where there is a name
abbrev pub lookup_number : {bytes : List ℕ} → SheetMeaning bytes → ℕ → ℕ → ℕ
lookup_number f kind number = first_no (lookup_questions f kind number)

-- the bytes of a sheet before its entries, and those of an entry before its name
abbrev pub front_length : ℕ
front_length = 5

abbrev pub head_length : ℕ
head_length = 7

-- a part of a file: from a place up to another
pub record Span : Type 0 where
  pub from : ℕ
  pub to : ℕ

-- where the name of the entry with the kind and number stands, in entries that begin at a place; the empty part at the start where there is
-- none
abbrev pub name_span : ℕ → ℕ → ℕ → List Entry → Span
name_span kind number at [] = record { from = 0; to = 0 }
name_span kind number at (e ∷ es) =
    pick (matches kind number e) (record { from = at + head_length; to = at + head_length + length e.name })
    (name_span kind number (at + length (entry_bytes e)) es)
