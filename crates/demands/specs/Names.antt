-- Request C-11, of any way to look a name up: each entry's own name is found, and nothing else is.
use Rattle.std.specs.Prelude.{◌≡◌, false, List, ◌∷◌, ◌++◌, ℕ, ◌+◌, ◌-◌, ◌^◌, ◌≤◌, eqb, length, Result, Ok, Err, IfOk}
use contract.Lifetimes.{Lfts}
use Rattle.std.specs.Borrow.{Bor, MutBor}
use Rattle.region_graph.specs.Refusals.{not_refused, broken_sheet, no_entry, refusal_number, answer_number}
use Rattle.region_graph.specs.declared.refusals.Refusal.{Refusal}
use Rattle.region_graph.specs.Lists.{pick, exists}
use Rattle.region_graph.specs.Calls.{first_no}
use Rattle.name_sheet.specs.Sheet.{Entry, LegalEntries, sheet}
use Rattle.name_sheet.specs.File.{SheetMeaning, matches, lookup_questions}
use Rattle.name_sheet.specs.Promise.{Located, located_by, between}
use Rattle.name_sheet.specs.declared.sheet.NamePlace.{NamePlace}
use Rattle.name_sheet.proofs.locate.Reads as locate
use Rattle.name_sheet.proofs.lookup.Reads as lookup
use Rattle.name_sheet.proofs.lookup_part.Reads as lookup_part
use Rattle.region_host.specs.CNumbers.{read_back}
use Rattle.region_host.proofs.region_name.Reads as region_name

-- what a lookup gives: where the name starts in the file and how many bytes it has, or the number of the question that was answered no
pub data Lookup : Type 0 where
  named : (from size : ℕ) → Lookup
  unnamed : (number : ℕ) → Lookup

abbrev pub lookup_refusal : Lookup → ℕ
lookup_refusal (named from size) = not_refused
lookup_refusal (unnamed number) = number

-- the very bytes of a name are given
pub record NameIn (s name : List ℕ) (a : Lookup) : Type 0 where
  pub from : ℕ
  pub given : a ≡ named from (length name)
  pub bytes : between s from (from + length name) ≡ name

-- `looks s kind number a`: a lookup of the kind and number in the file s gave a
pub record NamesGiven (looks : List ℕ → ℕ → ℕ → Lookup → Type 0) : Type 0 where
  -- demand 1: the number is that of the first question answered no, at most 19, or 0
  pub asked : {s : List ℕ} {kind number : ℕ} {a : Lookup} → looks s kind number a → (f : SheetMeaning s)
      → (lookup_refusal a ≡ first_no (lookup_questions f kind number)) × (lookup_refusal a ≤ no_entry)
  -- a file that is the sheet of no entries is refused with 18
  pub broken : {s : List ℕ} {kind number : ℕ} {a : Lookup} → looks s kind number a → ((es : List Entry) → LegalEntries es → sheet es ≡ s → ⊥)
      → a ≡ unnamed broken_sheet
  -- in a sheet, a kind and number that no entry has are refused with 19
  pub missing : {es : List Entry} {kind number : ℕ} {a : Lookup} → looks (sheet es) kind number a → LegalEntries es
      → exists (matches kind number) es ≡ false → a ≡ unnamed no_entry
  -- and each entry's kind and number give the entry's own name
  pub found : (xs : List Entry) (e : Entry) (ys : List Entry) {a : Lookup} → looks (sheet (xs ++ (e ∷ ys))) e.kind e.number a
      → LegalEntries (xs ++ (e ∷ ys)) → NameIn (sheet (xs ++ (e ∷ ys))) e.name a
  -- each list of entries has a sheet of its own
  pub one_sheet : (es fs : List Entry) → LegalEntries es → LegalEntries fs → sheet es ≡ sheet fs → es ≡ fs

-- `locate` tells the place, `lookup` hands back the part, which starts so many bytes behind the start of the lent sheet
abbrev pub given_as : Located → Lookup
given_as r = pick (eqb r.refusal not_refused) (named r.from (r.to - r.from)) (unnamed r.refusal)

-- a part that starts so many bytes behind the start of the sheet
abbrev pub given_part : ℕ → Result (Bor (List ℕ)) Refusal → Lookup
given_part from (Ok part) = named from (length part.now)
given_part from (Err refusal) = unnamed (refusal_number refusal)

pub data ValueLookup : List ℕ → ℕ → ℕ → Lookup → Type 0 where
  by_locate : (κs : Lfts 1) (s : Bor (List ℕ)) (kind number : ℕ) (r : Result NamePlace Refusal)
      → locate.Learnt κs (s, (kind, (number, tt))) r (s, (kind, (number, tt))) → ValueLookup s.now kind number (given_as (located_by r))
  by_lookup : (κs : Lfts 1) (s : Bor (List ℕ)) (kind number from : ℕ) (r : Result (Bor (List ℕ)) Refusal)
      → lookup.Learnt κs (s, (kind, (number, tt))) r (s, (kind, (number, tt))) → IfOk r (λ part. part.ref_ptr.1 ≡ s.ref_ptr.1 + from)
      → ValueLookup s.now kind number (given_part from r)
  by_lookup_part : (κs : Lfts 1) (s : Bor (List ℕ)) (kind number from : ℕ) (r : Bor (List ℕ) × Result Unit Refusal)
      → lookup_part.Learnt κs (s, (kind, (number, tt))) r (s, (kind, (number, tt))) → r.0.ref_ptr.1 ≡ s.ref_ptr.1 + from
      → ValueLookup s.now kind number (given_as (record { refusal = answer_number r.1; from = from; to = from + length r.0.now }))

-- for C: what it reads in the number, with the start that was written
pub data LentLookup : List ℕ → ℕ → ℕ → Lookup → Type 0 where
  by_region_name : (κs : Lfts 2) (s : Bor (List ℕ)) (was is : MutBor ℕ) (kind number v : ℕ)
      → region_name.Learnt κs (s, (was, (kind, (number, tt)))) v (s, (is, (kind, (number, tt))))
      → LentLookup s.now kind number (read_back (named is.now) unnamed v)

-- where the number is below zero the lent start is as it was
abbrev pub StartKept : Type 0
StartKept = (κs : Lfts 2) (s : Bor (List ℕ)) (was is : MutBor ℕ) (kind number v : ℕ)
    → region_name.Learnt κs (s, (was, (kind, (number, tt)))) v (s, (is, (kind, (number, tt)))) → 2 ^ 63 ≤ v → is.now ≡ was.now
