-- The loop over the records of a section: each leaves a row of numbers.
use mathlib.Core.Path.{◌≡◌, refl, sym, ap, ◌∙◌, subst}
use mathlib.Core.List.{List, [], ◌∷◌, ◌++◌}
use Prim.Native.Nat.{ℕ, ◌+◌, ◌-◌, ◌*◌, ◌%◌, ◌^◌, ◌≤◌, ◌<◌}
use native.Mathlib.Nat.{mul-le-mul_right, suc-mul, zero-mul, mod-eq_of_lt}
use native.Mathlib.Numerals.{add-one}
use native.Mathlib.Omega.{arith}
use borrow.Rule.Slice.PartMut.{put_mid}
use lib.ListN.{length, take, drop, get_or, length-append, drop_of_length-le}
use lib.Seq.{take_all, take-append-le, drop-append-le}
use Rattle.std.proofs.lemmas.Slice.{take-put_mid}
use Rattle.region_graph.specs.Size.{regions}
use Rattle.region_graph.specs.Lists.{All}
use Rattle.region_graph.specs.Flat.{Flat}
use Rattle.region_graph.proofs.Lists.{member_all}
use Rattle.big_endian.specs.Bytes.{big}
use Rattle.big_endian.specs.Bytes.{counted}
use Rattle.big_endian.specs.Parsing.{Parsed, Unparsed, ParsedInto}
use Rattle.big_endian.proofs.Rows.{Going, going_none, going_more}
use Rattle.region_archive.specs.RecordFields.{row_width, field_key, FlatElem, Elem, fields_of, key, most_records, record_bytes, LegalElem, LegalElems}
use Rattle.region_archive.specs.Sections.{HighElem, SectionStands}
use Rattle.region_archive.specs.declared.record_fields.Section.{Section}
use Rattle.region_archive.proofs.CountedReads.{parsed_as}
use Rattle.region_archive.proofs.CountedLists.{counted_missing, counted_found, counted_stuck}
use Rattle.region_archive.proofs.RecordLaws.{most_small}
use Rattle.region_archive.proofs.RecordReads.{Source, elements_of, NoRecord}

-- one row more
module _ {A : Type 0} (width : ℕ) (Is : List ℕ → A → Type 0) where
  flat_more : (ys : List ℕ) (xs : List A) (row : List ℕ) (x : A) → Flat width Is ys xs → length row ≡ width → Is row x
      → Flat width Is (ys ++ row) (xs ++ (x ∷ []))
  flat_more ys [] row x f l h =
      subst (λ (zs : List ℕ). Flat width Is (zs ++ row) (x ∷ [])) (sym f) (
        omega arith,
        subst (λ (zs : List ℕ). Is zs x) (sym (take_all width row (omega arith))) h,
        drop_of_length-le row {i = width} (omega arith),
      )
  flat_more ys (z ∷ xs) row x f l h = (
    omega (arith, f.0, length-append ys row),
    subst (λ (zs : List ℕ). Is zs z) (sym (take-append-le width ys row f.0)) f.1,
    subst (λ (zs : List ℕ). Flat width Is zs (xs ++ (x ∷ []))) (sym (drop-append-le width ys row f.0))
        (flat_more (drop width ys) xs row x f.2 l h),
  )

-- sizes
pub rows_small : (k : Section) → most_records k * row_width k ≤ 2544
rows_small (Section.Bundles v) = omega arith
rows_small (Section.Connections v) = omega arith

-- the next row is within the rows
pub row_room : (k : Section) {n : ℕ} → n < most_records k → (n + 1) * row_width k ≤ most_records k * row_width k
row_room k {n} h = mul-le-mul_right (row_width k) (omega arith)

row_next : (w n : ℕ) → (n + 1) * w ≡ n * w + w
row_next w n = omega (arith, ap (λ (m : ℕ). m * w) (add-one n) ∙ suc-mul n w)

pub key_small : (k : Section) (rs : List ℕ) → All (λ r. r < regions) rs → (x : Elem k) → LegalElem k rs x → key k x < 1099511627776
key_small (Section.Bundles v) rs small b l = omega (arith, l.0.location)
key_small (Section.Connections v) rs small c l =
    omega (arith, member_all (λ r. r < regions) c.source rs small l.0.source, member_all (λ r. r < regions) c.target rs small l.0.target)

-- the two numbers of a legal element have 32 bits
words_small : (k : Section) (rs : List ℕ) → All (λ r. r < regions) rs → (x : Elem k) → LegalElem k rs x
    → ((fields_of k x).first < 2 ^ 32) × ((fields_of k x).second < 2 ^ 32)
words_small (Section.Bundles v) rs small b l = (l.0.location, omega (arith, member_all (λ r. r < regions) b.region rs small l.0.region))
words_small (Section.Connections v) rs small c l = (
  omega (arith, member_all (λ r. r < regions) c.source rs small l.0.source),
  omega (arith, member_all (λ r. r < regions) c.target rs small l.0.target),
)

-- n elements were read from `mid` to `at`, each into a row
pub record Recording (q : Source) (mid : ℕ) (rows : List ℕ) (at least n : ℕ) : Type 0 where
  pub elems : List (Elem q.section)
  pub going : Going (elements_of q) q.bytes mid elems at least
  pub count : n ≡ length elems
  pub flat : Flat (row_width q.section) (FlatElem q.section) (take (n * row_width q.section) rows) elems

pub recording_start : {q : Source} {mid : ℕ} {rows : List ℕ} → mid ≤ length q.bytes → Recording q mid rows mid 0 0
recording_start {q} {rows = rows} h = record { elems = []; going = going_none (elements_of q) h; count = refl; flat = rw zero-mul refl }

-- the order of an element in a row
pub order_is : (q : Source) {row : List ℕ} (x : Elem q.section) → LegalElem q.section q.rs x → FlatElem q.section row x → {first second order : ℕ}
    → first ≡ get_or row 0 0 % 2 ^ 32 → second ≡ get_or row 1 0 % 2 ^ 32 → order ≡ field_key q.section first second → order ≡ key q.section x
order_is q x l flat a b o =
    let small = words_small q.section q.rs q.small x l in
    o ∙ (λ i. field_key q.section ((a ∙ low flat.first small.0) i) ((b ∙ low flat.second small.1) i))
  where
    low : {m n : ℕ} → m ≡ n → n < 2 ^ 32 → m % 2 ^ 32 ≡ n
    low e h = ap (λ (k : ℕ). k % 2 ^ 32) e ∙ mod-eq_of_lt h

module _ {q : Source} {mid : ℕ} {rows : List ℕ} {at least n : ℕ} (r : Recording q mid rows at least n) where
  -- one element more, whose numbers were put into the next row
  pub recording_more : {row : List ℕ} {to : ℕ}
      → (p : ParsedInto (HighElem q.section q.rs least) (record_bytes q.section) q.bytes at (FlatElem q.section row) to)
      → {w : ℕ} → w ≡ row_width q.section → (n + 1) * w ≤ length rows → length row ≡ (n + 1) * w - n * w
      → {order : ℕ} → order ≡ key q.section p.value
      → Recording q mid (put_mid (n * w) ((n + 1) * w - n * w) rows row) to (order + 1) (n + 1)
  recording_more {row} {to} p {w} e room size {order} o =
      subst (λ (w : ℕ). Recording q mid (put_mid (n * w) ((n + 1) * w - n * w) rows row) to (order + 1) (n + 1)) (sym e) more
    where
      x : Elem q.section
      x = p.value

      more : Recording q mid (put_mid (n * row_width q.section) ((n + 1) * row_width q.section - n * row_width q.section) rows row) to (order + 1) (n + 1)
      more = record {
        elems = r.elems ++ (x ∷ []);
        going =
            subst (λ (m : ℕ). Going (elements_of q) q.bytes mid (r.elems ++ (x ∷ [])) to (m + 1)) (sym o)
            (going_more (elements_of q) r.going (parsed_as p.parsed.is_good.0 p.parsed) p.parsed.is_good.1);
        count = ap (λ (m : ℕ). m + 1) r.count ∙ sym (length-append r.elems (x ∷ []));
        flat =
            let fits : length row ≡ row_width q.section = omega (arith, rw e at size, row_next (row_width q.section) n) in
            let split : take ((n + 1) * row_width q.section) (put_mid (n * row_width q.section) ((n + 1) * row_width q.section - n * row_width q.section) rows row)
            ≡ take (n * row_width q.section) rows ++ row =
            take-put_mid (n * row_width q.section) ((n + 1) * row_width q.section - n * row_width q.section) rows row ((n + 1) * row_width q.section)
            (omega (arith, fits, row_next (row_width q.section) n)) (omega (arith, rw e at room, row_next (row_width q.section) n)) in
            subst (λ (l : List ℕ). Flat (row_width q.section) (FlatElem q.section) l (r.elems ++ (x ∷ []))) (sym split)
            (flat_more (row_width q.section) (FlatElem q.section) (take (n * row_width q.section) rows) r.elems row x r.flat fits p.put);
      }

  module _ {from total : ℕ} (p : Parsed (λ m. m ≤ most_records q.section) (big 1) q.bytes from total mid) where
    -- a record is not there
    pub section_stuck : n < total → NoRecord q at least → Unparsed (LegalElems q.section q.rs) (counted (record_bytes q.section)) q.bytes from
    section_stuck h u =
        counted_stuck (elements_of q) (most_records q.section) (most_small q.section) p r.going (omega (arith, r.count)) (λ z t g l e. u z t (g, l) e)

    -- all of them are
    pub section_end : n ≡ total → {count : ℕ} → count ≡ n * row_width q.section → count ≤ length rows
        → SectionStands q.section q.rs q.bytes from rows count at
    section_end e {count} c room = record {
      room = room;
      read = record {
        value = r.elems;
        parsed = counted_found (elements_of q) (most_records q.section) (most_small q.section) p r.going (sym r.count ∙ e);
        put = subst (λ (m : ℕ). Flat (row_width q.section) (FlatElem q.section) (take m rows) r.elems) (sym c) r.flat;
      };
    }

-- the count is not there
pub section_missing : (q : Source) (from : ℕ) → Unparsed (λ m. m ≤ most_records q.section) (big 1) q.bytes from
    → Unparsed (LegalElems q.section q.rs) (counted (record_bytes q.section)) q.bytes from
section_missing q from u = counted_missing (elements_of q) (most_records q.section) (most_small q.section) q.bytes from u
