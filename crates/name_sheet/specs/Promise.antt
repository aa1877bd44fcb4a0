-- What the public calls of the name sheet promise.
use Rattle.std.specs.Prelude.{◌≡◌, List, ℕ, ◌+◌, ◌-◌, take, drop, Result, Ok, Err, IfOk}
use Rattle.std.specs.Borrow.{Bor}
use Rattle.region_graph.specs.Refusals.{not_refused, refusal_number, answer_number}
use Rattle.region_graph.specs.declared.refusals.Refusal.{Refusal}
use Rattle.name_sheet.specs.declared.sheet.NamePlace.{NamePlace}
use Rattle.name_sheet.specs.File.{SheetMeaning, sheet_entries, lookup_number, name_span, front_length}

-- where a name stands: 0, and the part from a place up to another; or a refusal's number, and the empty part at the sheet's start
pub record Located : Type 0 where
  pub refusal : ℕ
  pub from : ℕ
  pub to : ℕ

-- what is answered says where
abbrev pub located_by : Result NamePlace Refusal → Located
located_by (Ok part) = record { refusal = not_refused; from = part.start; to = part.end }
located_by (Err refusal) = record { refusal = refusal_number refusal; from = 0; to = 0 }

-- the number of the first question answered no, and where the name stands
abbrev pub located : {bytes : List ℕ} → SheetMeaning bytes → ℕ → ℕ → Located
located f kind number =
    let span = name_span kind number front_length (sheet_entries f) in
    record { refusal = lookup_number f kind number; from = span.from; to = span.to }

-- whatever the file means; each file means something (`sheet_meaning`)
abbrev pub Locates : List ℕ → ℕ → ℕ → Result NamePlace Refusal → Type 0
Locates s kind number r = (f : SheetMeaning s) → located_by r ≡ located f kind number

-- the bytes from a place up to another
abbrev pub between : List ℕ → ℕ → ℕ → List ℕ
between s from to = take (to - from) (drop from s)

-- r is the very part of the lent bytes s from a place up to another: it points there, and has their bytes
pub record PartOf (s : Bor (List ℕ)) (from to : ℕ) (r : Bor (List ℕ)) : Type 0 where
  pub block : r.ref_ptr.0 ≡ s.ref_ptr.0
  pub offset : r.ref_ptr.1 ≡ s.ref_ptr.1 + from
  pub bytes : r.now ≡ between s.now from to

-- a lookup in the lent sheet s handed back a part, or a refusal
pub record LookedUp {bytes : List ℕ} (f : SheetMeaning bytes) (s : Bor (List ℕ)) (kind number : ℕ) (r : Result (Bor (List ℕ)) Refusal) : Type 0 where
  pub refusal : answer_number r ≡ (located f kind number).refusal
  pub part : IfOk r (PartOf s (located f kind number).from (located f kind number).to)

abbrev pub LooksUp : Bor (List ℕ) → ℕ → ℕ → Result (Bor (List ℕ)) Refusal → Type 0
LooksUp s kind number r = (f : SheetMeaning s.now) → LookedUp f s kind number r

-- a lookup in the lent sheet s handed back a part in any case, and the number n; where it is refused, the part is the empty one at the start
pub record PartLookedUp {bytes : List ℕ} (f : SheetMeaning bytes) (s : Bor (List ℕ)) (kind number : ℕ) (r : Bor (List ℕ)) (n : ℕ) : Type 0 where
  pub refusal : n ≡ (located f kind number).refusal
  pub part : PartOf s (located f kind number).from (located f kind number).to r

abbrev pub LooksUpPart : Bor (List ℕ) → ℕ → ℕ → Bor (List ℕ) × Result (Unit {0}) Refusal → Type 0
LooksUpPart s kind number r = (f : SheetMeaning s.now) → PartLookedUp f s kind number r.0 (answer_number r.1)
