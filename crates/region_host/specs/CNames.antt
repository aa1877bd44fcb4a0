-- What C gets of a lookup in a name sheet.
use Rattle.std.specs.Prelude.{◌≡◌, List, ℕ, ◌-◌, eqb}
use Rattle.region_graph.specs.Refusals.{not_refused}
use Rattle.region_graph.specs.Lists.{pick}
use Rattle.name_sheet.specs.File.{SheetMeaning}
use Rattle.name_sheet.specs.Promise.{Located, located}
use Rattle.region_host.specs.CNumbers.{negative}

-- the name's length, or a refusal's number below zero; and the lent start as the call leaves it
pub record CName : Type 0 where
  pub value : ℕ
  pub start : ℕ

-- the start is the place of the name's first byte; where there is no name it is as it was
abbrev pub name_for_c : Located → ℕ → CName
name_for_c r start =
    pick (eqb r.refusal not_refused) (record { value = r.to - r.from; start = r.from }) (record { value = negative r.refusal; start = start })

-- whatever the file means; each file means something (`sheet_meaning`)
abbrev pub NamedForC : List ℕ → ℕ → ℕ → ℕ → ℕ → ℕ → Type 0
NamedForC s kind number before value after =
    (f : SheetMeaning s) → record { value = value; start = after } ≡ name_for_c (located f kind number) before
