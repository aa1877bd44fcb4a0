-- The one sheet of some entries: it tells them, and its front.
use mathlib.Core.Path.{◌≡◌, refl, sym, ap, ◌∙◌}
use mathlib.Core.Bool.{true, false}
use mathlib.Core.List.{List, ◌∷◌, ◌++◌}
use Prim.Native.Nat.{ℕ, ◌+◌, ◌-◌, ◌/◌, ◌%◌, ◌^◌, ◌≤◌, ◌<◌}
use native.Mathlib.Omega.{arith}
use borrow.Author.Tests.{eqb-true, eqb-false}
use lib.Dec.{eqb}
use lib.ListN.{length, drop, length-drop}
use Rattle.region_graph.specs.Lists.{All, ascends}
use Rattle.region_graph.proofs.Lists.{false_true}
use Rattle.big_endian.specs.Bytes.{big}
use Rattle.big_endian.specs.Parsing.{Parsed}
use Rattle.big_endian.proofs.Digits.{big_length}
use Rattle.big_endian.proofs.Delimits.{head_same, big_same}
use Rattle.big_endian.proofs.Readers.{rows_of, rows_back}
use Rattle.name_sheet.specs.Sheet.{Entry, LegalSheetEntry, LegalEntries, sheet_entry_before, entries_bytes, sheet_version, sheet}
use Rattle.name_sheet.specs.File.{front_length}
use Rattle.name_sheet.specs.Reading.{StartsAsSheet, FrontRead}
use Rattle.name_sheet.proofs.EntryLaws.{entry_length, read_entry}

-- what stands after the front, and how long a sheet is
pub sheet_rest : (es : List Entry) → drop front_length (sheet es) ≡ entries_bytes es
unfolding sheet
sheet_rest es = refl

pub sheet_length : (es : List Entry) → length (sheet es) ≡ front_length + length (entries_bytes es)
unfolding sheet
sheet_length es = omega arith

-- the entries that a file's bytes read as
pub entries_read : List ℕ → List Entry
entries_read s = rows_of read_entry (λ e. omega (arith, entry_length e)) (drop front_length s)

pub entries_back : (es : List Entry) → LegalEntries es → entries_read (sheet es) ≡ es
unfolding entries_read
entries_back es l =
    ap (rows_of read_entry (λ e. omega (arith, entry_length e))) (sheet_rest es) ∙ rows_back read_entry (λ e. omega (arith, entry_length e)) es l.each

-- legal entries with one sheet are the same
pub one_sheet : (es fs : List Entry) → LegalEntries es → LegalEntries fs → sheet es ≡ sheet fs → es ≡ fs
one_sheet es fs l k e = sym (entries_back es l) ∙ ap entries_read e ∙ entries_back fs k

module _ {s : List ℕ} where
  pub no_front : ((es : List Entry) → LegalEntries es → sheet es ≡ s → ⊥) → FrontRead s false
  no_front u = record { yes = λ e. false_true e; no = λ e. u }

  -- a file of fewer bytes than the front has
  pub front_short : (front_length ≤ length s → ⊥) → (es : List Entry) → LegalEntries es → sheet es ≡ s → ⊥
  front_short h es l e = h (omega (arith, sheet_length es, ap length e))

  module _ {n a : ℕ} (first : Parsed (λ x. x < 256 ^ 1) (big 1) s 0 n a) where
    -- the first byte is that of the version, or the file is no sheet
    first_byte : s ≡ n ∷ drop a s
    first_byte =
        let e : n / 1 % 256 ≡ n = omega (arith, first.is_good) in
        first.shape ∙ ap (λ (m : ℕ). m ∷ drop a s) e

    pub front_other : (n ≡ sheet_version → ⊥) → (es : List Entry) → LegalEntries es → sheet es ≡ s → ⊥
    unfolding sheet
    front_other u es l e = u (head_same (sym (e ∙ first_byte)))

    module _ (version : n ≡ sheet_version) {k b : ℕ} (size : Parsed (λ x. x < 256 ^ 4) (big 4) s 1 k b) where
      -- the length field counts the rest, or the file is no sheet
      pub front_read : FrontRead s (eqb k (length s - front_length))
      unfolding sheet
      front_read = record { yes = opens; no = none }
        where
          ends : (a ≡ 1) × (b ≡ front_length)
          ends = (omega (arith, first.ends, big_length 1 n), omega (arith, size.ends, big_length 4 k))

          long : front_length ≤ length s
          long = omega (arith, ends.1, size.room)

          opens : eqb k (length s - front_length) ≡ true → StartsAsSheet s
          opens e =
              let f = eqb-true k (length s - front_length) e in
              record {
                long = long;
                fits = omega (arith, f, size.is_good);
                shape =
                    first_byte ∙ (λ i. version i ∷ drop (ends.0 i) s)
                    ∙ ap (λ (t : List ℕ). sheet_version ∷ t) (size.shape ∙ (λ i. big 4 (f i) ++ drop (ends.1 i) s));
              }

          none : eqb k (length s - front_length) ≡ false → (es : List Entry) → LegalEntries es → sheet es ≡ s → ⊥
          none e es l f =
              let q =
              big_same 4 k (length (entries_bytes es)) (drop b s) (entries_bytes es) size.is_good l.fits
              (sym size.shape ∙ ap (drop 1) (sym f)) in
              eqb-false k (length s - front_length) e (omega (arith, q.0, sheet_length es, ap length f))

-- a file that starts as a sheet does, and goes on with legal entries in order, is their sheet
pub whole_sheet : {s : List ℕ} → StartsAsSheet s → (es : List Entry) → All LegalSheetEntry es → ascends sheet_entry_before es ≡ true
    → drop front_length s ≡ entries_bytes es → LegalEntries es × (sheet es ≡ s)
unfolding sheet
whole_sheet {s} o es every rising e = (
  record { each = every; ascend = rising; fits = omega (arith, o.fits, count) },
  sym (o.shape ∙ (λ i. sheet_version ∷ (big 4 (count i) ++ e i))),
)
  where
    count : length s - front_length ≡ length (entries_bytes es)
    count = sym (length-drop front_length s) ∙ ap length e
