-- What the private functions promise of a sheet's front and its entries.
use Rattle.std.specs.Prelude.{◌≡◌, Bool, true, false, List, ◌∷◌, ◌++◌, ℕ, ◌+◌, ◌-◌, ◌≤◌, ◌<◌, ◌^◌, length, drop, Option, MatchBool, MatchOption}
use Rattle.region_graph.specs.Lists.{All}
use Rattle.big_endian.specs.Bytes.{big}
use Rattle.big_endian.specs.Parsing.{Parsed, Unparsed}
use Rattle.name_sheet.specs.Sheet.{Entry, Printable, LegalSheetEntry, LegalEntries, entry_bytes, sheet_version, sheet}
use Rattle.name_sheet.specs.File.{front_length, head_length}
use Rattle.name_sheet.specs.Promise.{between}
use Rattle.name_sheet.specs.declared.entries.EntryAt.{EntryAt}

-- each byte of a text is one that a name may have, or not
abbrev pub TextRead : List ℕ → Bool → Type 0
TextRead s r = MatchBool r (All Printable s) (All Printable s → ⊥)

-- the entry that was read at a place
abbrev pub entry_there : List ℕ → ℕ → EntryAt → Entry
entry_there s at r = record { kind = r.kind; number = r.number; name = between s (at + head_length) r.next }

abbrev pub EntryRead : List ℕ → ℕ → Option EntryAt → Type 0
EntryRead s at r =
    MatchOption r (Unparsed LegalSheetEntry entry_bytes s at) (λ e. Parsed LegalSheetEntry entry_bytes s at (entry_there s at e) e.next)

-- the version byte, and the length of the rest
pub record StartsAsSheet (s : List ℕ) : Type 0 where
  pub long : front_length ≤ length s
  pub fits : length s - front_length < 2 ^ 32
  pub shape : s ≡ sheet_version ∷ (big 4 (length s - front_length) ++ drop front_length s)

-- a file starts so, or is no sheet
pub record FrontRead (s : List ℕ) (r : Bool) : Type 0 where
  pub yes : r ≡ true → StartsAsSheet s
  pub no : r ≡ false → (es : List Entry) → LegalEntries es → sheet es ≡ s → ⊥
