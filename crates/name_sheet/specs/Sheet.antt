-- Request C-11 of document 02: entries, and the one sheet of a list of them.
use Rattle.std.specs.Prelude.{◌≡◌, Bool, true, ◌&&◌, ◌||◌, List, ◌∷◌, ◌++◌, ℕ, ◌≤◌, ◌<◌, ◌^◌, eqb, ltb, length}
use Rattle.region_graph.specs.Lists.{All, ascends, concat_map}
use Rattle.region_graph.specs.Model.{Word}
use Rattle.big_endian.specs.Bytes.{big, sized}

-- kinds: 0 bundle, 1 package, 2 service, 3 region
pub record Entry : Type 0 where
  pub kind : ℕ
  pub number : ℕ
  pub name : List ℕ

abbrev pub greatest_kind : ℕ
greatest_kind = 3

abbrev pub longest_name : ℕ
longest_name = 40

-- a byte of a name
pub record Printable (c : ℕ) : Type 0 where
  pub least : 0x20 ≤ c
  pub most : c ≤ 0x7E

pub record LegalSheetEntry (e : Entry) : Type 0 where
  pub kind : e.kind ≤ greatest_kind
  pub number : Word e.number
  pub some : 1 ≤ length e.name
  pub few : length e.name ≤ longest_name
  pub text : All Printable e.name

-- by kind, then number
abbrev pub sheet_entry_before : Entry → Entry → Bool
sheet_entry_before a b = ltb a.kind b.kind || (eqb a.kind b.kind && ltb a.number b.number)

-- a 16-bit length of what follows, the kind byte, the 32-bit number and the name
abbrev pub entry_fields : Entry → List ℕ
entry_fields e = big 1 e.kind ++ (big 4 e.number ++ e.name)

abbrev pub entry_bytes : Entry → List ℕ
entry_bytes e = sized 2 entry_fields e

abbrev pub entries_bytes : List Entry → List ℕ
entries_bytes es = concat_map entry_bytes es

-- entries of which there is a sheet: its length field counts their bytes
pub record LegalEntries (es : List Entry) : Type 0 where
  pub each : All LegalSheetEntry es
  pub ascend : ascends sheet_entry_before es ≡ true
  pub fits : length (entries_bytes es) < 2 ^ 32

abbrev pub sheet_version : ℕ
sheet_version = 1

-- the version byte, a 32-bit length of the rest, the entries
unfoldable pub sheet : List Entry → List ℕ
sheet es = sheet_version ∷ sized 4 entries_bytes es
