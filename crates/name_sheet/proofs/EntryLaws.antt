-- An entry in bytes: it is told by them, and read from them.
use mathlib.Core.Path.{◌≡◌, refl, sym, ap, ◌∙◌, subst}
use mathlib.Core.List.{List, ◌++◌, append_assoc}
use Prim.Native.Nat.{ℕ, ◌+◌, ◌-◌, ◌*◌, ◌^◌, ◌≤◌, ◌<◌}
use native.Mathlib.Omega.{arith}
use lib.ListN.{length, take, drop, length-append, length-drop, take-append-drop}
use lib.Seq.{length-take-le, drop-drop, take_at}
use Rattle.region_graph.specs.Lists.{All}
use Rattle.region_graph.proofs.Ascending.{pair_order}
use Rattle.big_endian.specs.Bytes.{big}
use Rattle.big_endian.specs.Parsing.{Parsed, Unparsed}
use Rattle.big_endian.proofs.Digits.{big_length}
use Rattle.big_endian.proofs.Delimits.{Reader, reader_same, read_number, big_same}
use Rattle.big_endian.proofs.Readers.{read_length}
use Rattle.big_endian.proofs.Rows.{Elements}
use Rattle.name_sheet.specs.Sheet.{Entry, Printable, LegalSheetEntry, greatest_kind, sheet_entry_before, entry_fields, entry_bytes}
use Rattle.name_sheet.specs.File.{head_length}
use Rattle.name_sheet.specs.Promise.{between}

pub fields_length : (e : Entry) → length (entry_fields e) ≡ 5 + length e.name
fields_length e =
    omega (
      arith,
      length-append (big 1 e.kind) (big 4 e.number ++ e.name),
      length-append (big 4 e.number) e.name,
      big_length 1 e.kind,
      big_length 4 e.number,
    )

pub entry_length : (e : Entry) → length (entry_bytes e) ≡ head_length + length e.name
entry_length e =
    let n = length (entry_fields e) in
    omega (arith, length-append (big 2 n) (entry_fields e), big_length 2 n, fields_length e)

-- an entry can be read back from its bytes
pub read_entry : Reader LegalSheetEntry entry_bytes
read_entry = read_length 2 of back (λ e h. omega (arith, fields_length e, h.few))
  where
    after_kind : ℕ × List ℕ → Entry
    after_kind q = record { kind = q.0; number = ((read_number 4).read q.1).0; name = ((read_number 4).read q.1).1 }

    of : List ℕ → Entry
    of s = after_kind ((read_number 1).read s)

    back : (e : Entry) → LegalSheetEntry e → of (entry_fields e) ≡ e
    back e h =
        ap after_kind ((read_number 1).back e.kind (big 4 e.number ++ e.name) (omega (arith, h.kind)))
        ∙ ap (λ (q : ℕ × List ℕ). record { kind = e.kind; number = q.0; name = q.1 }) ((read_number 4).back e.number e.name h.number)

-- the order of entries is that of one number
abbrev pub key : Entry → ℕ
key e = e.kind * 2 ^ 32 + e.number

abbrev pub entry_elements : Elements Entry
entry_elements = record {
  good = LegalSheetEntry;
  bytes = entry_bytes;
  before = sheet_entry_before;
  key = key;
  same = reader_same LegalSheetEntry entry_bytes read_entry;
  keyed = λ a b g h. pair_order (2 ^ 32) a.kind a.number b.kind b.number g.number h.number;
}

-- no length stands at a place
pub no_size : (s : List ℕ) (at : ℕ) → Unparsed (λ x. x < 256 ^ 2) (big 2) s at → Unparsed LegalSheetEntry entry_bytes s at
no_size s at u e r h f =
    let l = length (entry_fields e) in
    u l (entry_fields e ++ r) (omega (arith, fields_length e, h.few)) (f ∙ append_assoc (big 2 l) (entry_fields e) r)

-- a length stands at a place
module _ {s : List ℕ} {at n a : ℕ} (size : Parsed (λ x. x < 256 ^ 2) (big 2) s at n a) where
  -- it counts the fields of an entry that stands there
  pub record SizeOf (e : Entry) (r : List ℕ) : Type 0 where
    pub count : n ≡ 5 + length e.name
    pub room : a + n ≤ length s
    pub fields : drop a s ≡ entry_fields e ++ r

  pub size_of : (e : Entry) (r : List ℕ) → LegalSheetEntry e → drop at s ≡ entry_bytes e ++ r → SizeOf e r
  size_of e r h f =
      let l = length (entry_fields e) in
      let d =
      big_same 2 n l (drop a s) (entry_fields e ++ r) size.is_good (omega (arith, fields_length e, h.few))
      (sym size.shape ∙ f ∙ append_assoc (big 2 l) (entry_fields e) r) in
      record {
        count = d.0 ∙ fields_length e;
        room = omega (arith, d.0, size.room, sym (length-drop a s) ∙ ap length d.1 ∙ length-append (entry_fields e) r);
        fields = d.1;
      }

  -- one that counts no name, more than the longest, or more than there is
  pub too_small : n ≤ 5 → Unparsed LegalSheetEntry entry_bytes s at
  too_small u e r h f = omega (arith, h.some, (size_of e r h f).count)

  pub too_great : 45 < n → Unparsed LegalSheetEntry entry_bytes s at
  too_great u e r h f = omega (arith, h.few, (size_of e r h f).count)

  pub cut_short : length s - a < n → Unparsed LegalSheetEntry entry_bytes s at
  cut_short u e r h f = omega (arith, (size_of e r h f).room)

  -- a kind stands behind it
  module _ {k b : ℕ} (kind : Parsed (λ x. x < 256 ^ 1) (big 1) s a k b) where
    kind_of : (e : Entry) (r : List ℕ) → LegalSheetEntry e → drop at s ≡ entry_bytes e ++ r
        → (k ≡ e.kind) × (drop b s ≡ (big 4 e.number ++ e.name) ++ r)
    kind_of e r h f =
        big_same 1 k e.kind (drop b s) ((big 4 e.number ++ e.name) ++ r) kind.is_good (omega (arith, h.kind))
        (sym kind.shape ∙ (size_of e r h f).fields ∙ append_assoc (big 1 e.kind) (big 4 e.number ++ e.name) r)

    pub kind_over : greatest_kind < k → Unparsed LegalSheetEntry entry_bytes s at
    kind_over u e r h f = omega (arith, h.kind, (kind_of e r h f).0)

    -- and a number behind the kind; the bytes up to where the length ends are the name
    module _ {m d : ℕ} (number : Parsed (λ x. x < 256 ^ 4) (big 4) s b m d) (least : 5 < n) (most : n ≤ 45) (within : n ≤ length s - a) where
      pub name_at : d ≡ at + head_length
      name_at = omega (arith, size.ends, kind.ends, number.ends, big_length 2 n, big_length 1 k, big_length 4 m)

      pub name_room : (d ≤ a + n) × (a + n ≤ length s)
      name_room = (omega (arith, name_at, size.ends, big_length 2 n), omega (arith, size.room))

      name : List ℕ
      name = between s d (a + n)

      name_length : length name ≡ n - 5
      unfolding name
      name_length =
          let e : a + n - d ≡ n - 5 = omega (arith, name_at, size.ends, big_length 2 n) in
          length-take-le (a + n - d) (drop d s) (omega (arith, length-drop d s, name_room.1)) ∙ e

      -- an entry that stands here has this name
      name_of_entry : (e : Entry) (r : List ℕ) → LegalSheetEntry e → drop at s ≡ entry_bytes e ++ r → name ≡ e.name
      unfolding name
      name_of_entry e r h f =
          let q =
          big_same 4 m e.number (drop d s) (e.name ++ r) number.is_good h.number
          (sym number.shape ∙ (kind_of e r h f).1 ∙ append_assoc (big 4 e.number) e.name r) in
          let l : a + n - d ≡ length e.name = omega (arith, name_at, size.ends, big_length 2 n, (size_of e r h f).count) in
          (λ i. take (l i) (q.1 i)) ∙ take_at e.name r (length e.name) refl

      pub not_text : (All Printable (between s d (a + n)) → ⊥) → Unparsed LegalSheetEntry entry_bytes s at
      unfolding name
      not_text u e r h f = u (subst (All Printable) (sym (name_of_entry e r h f)) h.text)

      -- the entry that the bytes make
      there : Entry
      there = record { kind = k; number = m; name = name }

      shape : drop at s ≡ entry_bytes there ++ drop (a + n) s
      unfolding there name
      shape =
          let z : length (entry_fields there) ≡ n = fields_length there ∙ omega (arith, name_length) in
          let w : d + (a + n - d) ≡ a + n = omega (arith, name_room.0) in
          let split : drop d s ≡ name ++ drop (a + n) s =
          sym (take-append-drop (a + n - d) (drop d s))
          ∙ ap (λ (t : List ℕ). name ++ t) (drop-drop (a + n - d) d s ∙ ap (λ (q : ℕ). drop q s) w) in
          let numbered : drop b s ≡ (big 4 m ++ name) ++ drop (a + n) s =
          number.shape ∙ ap (λ (t : List ℕ). big 4 m ++ t) split ∙ sym (append_assoc (big 4 m) name (drop (a + n) s)) in
          let fields : drop a s ≡ entry_fields there ++ drop (a + n) s =
          kind.shape ∙ ap (λ (t : List ℕ). big 1 k ++ t) numbered ∙ sym (append_assoc (big 1 k) (big 4 m ++ name) (drop (a + n) s)) in
          size.shape ∙ (λ i. big 2 (sym z i) ++ fields i)
          ∙ sym (append_assoc (big 2 (length (entry_fields there))) (entry_fields there) (drop (a + n) s))

      pub entry_stands : k ≤ greatest_kind → All Printable (between s d (a + n))
          → Parsed LegalSheetEntry entry_bytes s at (record { kind = k; number = m; name = between s (at + head_length) (a + n) }) (a + n)
      unfolding there name
      entry_stands l t =
          subst (λ (q : ℕ). Parsed LegalSheetEntry entry_bytes s at (record { kind = k; number = m; name = between s q (a + n) }) (a + n)) name_at
          (record {
            is_good = record {
              kind = l;
              number = number.is_good;
              some = omega (arith, name_length);
              few = omega (arith, name_length);
              text = t;
            };
            shape = shape;
            ends = omega (arith, entry_length there, name_length, size.ends, big_length 2 n);
            room = name_room.1;
          })
