-- One field more of a record is read into its row.
use mathlib.Core.Path.{◌≡◌, refl, sym, ap, ◌∙◌, subst}
use mathlib.Core.Bool.{Bool, true, false}
use mathlib.Core.List.{List, [], ◌∷◌, ◌++◌, append-nil}
use Prim.Native.Nat.{ℕ, zero, suc, ◌+◌, ◌-◌, ◌*◌, ◌%◌, ◌^◌, ◌≤◌, ◌<◌}
use native.Mathlib.Nat.{mul-le-mul_right, suc-mul, mod-eq_of_lt}
use native.Mathlib.Omega.{arith}
use lib.ListN.{length, take, drop, get_or, set, length-set, get_or-append}
use lib.Seq.{length-take-le, drop-length, drop-drop, drop_at, get_or-take, get_or-append-add, get_or-set_same, get_or-set_other}
use borrow.Rule.Slice.PartMut.{put_mid, Post-is}
use Rattle.std.specs.Prelude.{Option, Some, None}
use Rattle.region_graph.specs.Model.{Part}
use Rattle.region_graph.specs.Flat.{Fields, FlatPart}
use Rattle.region_graph.proofs.Lists.{false_true}
use Rattle.big_endian.specs.Bytes.{big}
use Rattle.region_archive.specs.Image.{part_bytes}
use Rattle.region_archive.specs.Forms.{element_bytes, form_of}
use Rattle.big_endian.specs.Parsing.{Parsed, Unparsed, ParsedInto, AnswerInto}
use Rattle.big_endian.proofs.Digits.{small_within}
use Rattle.big_endian.proofs.Delimits.{big_same}
use Rattle.region_archive.specs.RecordFields.{SameTo, GoodTo, part_at, first_width, field_count, most_in, row_width, part_open}
use Rattle.region_archive.specs.RecordFields.{PartGood, first_good, second_good, FieldGood, field_bytes, FieldSame, FlatField}
use Rattle.region_archive.specs.Sections.{PartRead, FieldRead}
use Rattle.region_archive.specs.declared.forms.Form.{Form}
use Rattle.region_archive.specs.declared.record_fields.Section.{Section}
use Rattle.region_archive.proofs.Fits.{narrow_first}

-- the first number is that of the fields in the row
first_is : (s : Section) (old : List ℕ) (n : ℕ) {a : ℕ} → a ≡ get_or (set old 1 n) 0 0 % 2 ^ 32 → (x : Fields) → x.first < 256 ^ first_width s
    → get_or old 0 0 ≡ x.first → a ≡ x.first
first_is s old n low x l e =
    low ∙ ap (λ (m : ℕ). m % 2 ^ 32) (get_or-set_other old 1 0 n 0 (λ i. omega arith) ∙ e) ∙ mod-eq_of_lt (small_within {w = 4} (narrow_first s) l)

width_is : (s : Section) {bytes : List ℕ} {at w n next : ℕ} → w ≡ first_width s → Parsed (λ m. m < 256 ^ w) (big w) bytes at n next
    → Parsed (λ m. m < 256 ^ first_width s) (big (first_width s)) bytes at n next
width_is s {bytes} {at} {n = n} {next} f q = subst (λ (v : ℕ). Parsed (λ m. m < 256 ^ v) (big v) bytes at n next) f q

-- the two numbers
module _ {s : Section} {rs : List ℕ} {floor : ℕ} {bytes : List ℕ} {at : ℕ} {old : List ℕ} where
  -- the first number
  module _ {w : ℕ} (f : w ≡ first_width s) where
    pub first_missing : Unparsed (λ m. m < 256 ^ w) (big w) bytes at → FieldRead s rs floor 0 bytes at old old None
    first_missing u = record { size = refl; answer = λ x g h y r k e. none y r k.1.0 e }
      where
        none : (y : Fields) (r : List ℕ) → y.first < 256 ^ first_width s → drop at bytes ≡ big (first_width s) y.first ++ r → ⊥
        none y r = subst (λ (v : ℕ). y.first < 256 ^ v → drop at bytes ≡ big v y.first ++ r → ⊥) f (u y.first r)

    module _ {n next : ℕ} (q : Parsed (λ m. m < 256 ^ w) (big w) bytes at n next) where
      pub first_read : 1 ≤ length old → first_good s rs floor n ≡ true → FieldRead s rs floor 0 bytes at old (set old 0 n) (Some next)
      first_read h e = let p = width_is s f q in record {
        size = length-set old 0 n;
        answer = λ x g k.
            record {
              value = record { first = n; second = x.second; parts = x.parts };
              parsed = record { is_good = (tt, (p.is_good, e)); shape = p.shape; ends = p.ends; room = p.room };
              put = (tt, get_or-set_same old 0 n 0 (omega arith));
            };
      }

      pub first_refused : first_good s rs floor n ≡ false → FieldRead s rs floor 0 bytes at old (set old 0 n) None
      first_refused e = let p = width_is s f q in record {
        size = length-set old 0 n;
        answer = λ x g h y r k i.
            let d = big_same (first_width s) n y.first (drop next bytes) r p.is_good k.1.0 (sym p.shape ∙ i) in
            false_true (sym e ∙ ap (first_good s rs floor) d.0 ∙ k.1.1);
      }

  -- the second number
  pub second_missing : Unparsed (λ m. m < 256 ^ 1) (big 1) bytes at → FieldRead s rs floor 1 bytes at old old None
  second_missing u = record { size = refl; answer = λ x g h y r k e. u y.second r k.1.0 e }

  module _ {n next : ℕ} (p : Parsed (λ m. m < 256 ^ 1) (big 1) bytes at n next) (h : 2 ≤ length old)
      {a : ℕ} (low : a ≡ get_or (set old 1 n) 0 0 % 2 ^ 32) where
    pub second_read : second_good s rs floor a n ≡ true → FieldRead s rs floor 1 bytes at old (set old 1 n) (Some next)
    second_read e = record {
      size = length-set old 1 n;
      answer = λ x g k.
          record {
            value = record { first = x.first; second = n; parts = x.parts };
            parsed =
                record {
                  is_good = ((tt, refl), (p.is_good, ap (λ (a : ℕ). second_good s rs floor a n) (sym (first_is s old n low x g.1.0 k.1)) ∙ e));
                  shape = p.shape;
                  ends = p.ends;
                  room = p.room;
                };
            put = ((tt, get_or-set_other old 1 0 n 0 (λ e. omega arith) ∙ k.1), get_or-set_same old 1 n 0 (omega arith));
          };
    }

    pub second_refused : second_good s rs floor a n ≡ false → FieldRead s rs floor 1 bytes at old (set old 1 n) None
    second_refused e = record {
      size = length-set old 1 n;
      answer = λ x g l y r k i.
          let d = big_same 1 n y.second (drop next bytes) r p.is_good k.1.0 (sym p.shape ∙ i) in
          false_true (sym e ∙ (λ j. second_good s rs floor ((first_is s old n low x g.1.0 l.1 ∙ k.0.1) j) (d.0 j)) ∙ k.1.1);
    }

-- a row whose places from some place on are new

-- the places before stay
front : (i n place : ℕ) (xs ys : List ℕ) → i + n ≤ place → place ≤ length xs → take n (drop i (take place xs ++ ys)) ≡ take n (drop i xs)
front zero zero place xs ys h k = refl
front zero (suc n) zero xs ys h k = absurd (omega arith)
front zero (suc n) (suc place) [] ys h k = absurd (omega arith)
front zero (suc n) (suc place) (x ∷ xs) ys h k = ap (λ (l : List ℕ). x ∷ l) (front zero n place xs ys (omega arith) (omega arith))
front (suc i) n zero xs ys h k = absurd (omega arith)
front (suc i) n (suc place) [] ys h k = absurd (omega arith)
front (suc i) n (suc place) (x ∷ xs) ys h k = front i n place xs ys (omega arith) (omega arith)

front_at : (i place : ℕ) (xs ys : List ℕ) → i < place → place ≤ length xs → get_or (take place xs ++ ys) i 0 ≡ get_or xs i 0
front_at i place xs ys h k =
    get_or-append (take place xs) ys 0 i (omega (arith, length-take-le place xs k)) ∙ get_or-take place xs i 0 h

-- and those from it on are the new ones
back : (place : ℕ) (xs ys : List ℕ) → place ≤ length xs → drop (place + 1) (take place xs ++ ys) ≡ drop 1 ys
back place xs ys h = sym (drop-drop 1 place (take place xs ++ ys)) ∙ ap (drop 1) (drop_at (take place xs) ys place (length-take-le place xs h))

back_at : (place : ℕ) (xs ys : List ℕ) → place ≤ length xs → get_or (take place xs ++ ys) place 0 ≡ get_or ys 0 0
back_at place xs ys h =
    let e : place ≡ length (take place xs) + 0 = omega (arith, length-take-le place xs h) in
    ap (λ (n : ℕ). get_or (take place xs ++ ys) n 0) e ∙ get_or-append-add (take place xs) ys 0 0

-- a part at other places
part_moves : (f : Form) (xs ys : List ℕ) (i j most : ℕ) → get_or ys j 0 ≡ get_or xs i 0
    → ((n : ℕ) → n ≤ most → take n (drop (j + 1) ys) ≡ take n (drop (i + 1) xs))
    → (all : Bool) (p : Part ℕ) → PartGood f most all p → FlatPart xs i p → FlatPart ys j p
part_moves f xs ys i j most e k all (Part.listed ns) g h = (e ∙ h.0, k (length ns) g.few ∙ h.1)
part_moves f xs ys i j most e k all Part.everything g h = e ∙ h

-- parts with one set anew
put_part : List (Part ℕ) → ℕ → Part ℕ → List (Part ℕ)
put_part [] zero p = p ∷ []
put_part [] (suc j) p = Part.listed [] ∷ put_part [] j p
put_part (q ∷ ps) zero p = p ∷ ps
put_part (q ∷ ps) (suc j) p = q ∷ put_part ps j p

put_same : (ps : List (Part ℕ)) (j : ℕ) (p : Part ℕ) → get_or (put_part ps j p) j (Part.listed []) ≡ p
unfolding put_part
put_same [] zero p = refl
put_same [] (suc j) p = put_same [] j p
put_same (q ∷ ps) zero p = refl
put_same (q ∷ ps) (suc j) p = put_same ps j p

put_other : (ps : List (Part ℕ)) (j : ℕ) (p : Part ℕ) (i : ℕ) → i < j → get_or ps i (Part.listed []) ≡ get_or (put_part ps j p) i (Part.listed [])
unfolding put_part
put_other ps zero p i h = absurd (omega arith)
put_other [] (suc j) p zero h = refl
put_other [] (suc j) p (suc i) h = put_other [] j p i (omega arith)
put_other (q ∷ ps) (suc j) p zero h = refl
put_other (q ∷ ps) (suc j) p (suc i) h = put_other ps j p i (omega arith)

abbrev with_part : Fields → ℕ → Part ℕ → Fields
with_part x j p = record { first = x.first; second = x.second; parts = put_part x.parts j p }

-- a part, the j-th
module _ (s : Section) (rs : List ℕ) (floor : ℕ) (old sub : List ℕ) (j : ℕ) where
  abbrev place : ℕ → ℕ
  place i = 2 + i * (most_in s + 1)

  abbrev Good : Part ℕ → Type 0
  Good = PartGood (form_of s (suc (suc j))) (most_in s) (part_open s (suc (suc j)))

  abbrev bytes_of : Part ℕ → List ℕ
  bytes_of = part_bytes (element_bytes (form_of s (suc (suc j))))

  same_with : (x : Fields) (p : Part ℕ) (i : ℕ) → i ≤ j → SameTo FieldSame (suc (suc i)) x (with_part x j p)
  same_with x p zero h = ((tt, refl), refl)
  same_with x p (suc i) h = (same_with x p i (omega arith), put_other x.parts j p i (omega arith))

  module _ (room : place j ≤ length old) where
    abbrev new : List ℕ
    new = take (place j) old ++ sub

    flat_with : (x : Fields) (p : Part ℕ) (i : ℕ) → i ≤ j → GoodTo (FieldGood s rs floor) (suc (suc i)) x
        → GoodTo (FlatField (most_in s) old) (suc (suc i)) x → GoodTo (FlatField (most_in s) new) (suc (suc i)) (with_part x j p)
    flat_with x p zero h g k =
        ((tt, front_at 0 (place j) old sub (omega arith) room ∙ k.0.1), front_at 1 (place j) old sub (omega arith) room ∙ k.1)
    flat_with x p (suc i) h g k = (
      flat_with x p i (omega arith) g.0 k.0,
      subst (FlatPart new (place i)) (put_other x.parts j p i (omega arith))
          (part_moves (form_of s (suc (suc i))) old new (place i) (place i) (most_in s) (front_at (place i) (place j) old sub (omega (arith, next)) room)
          (λ n l. front (place i + 1) n (place j) old sub (omega (arith, next)) room) (part_open s (suc (suc i))) (part_at x i) g.1 k.1),
    )
      where
        up : suc i ≤ j
        up = omega arith

        next : place i + (most_in s + 1) ≤ place j
        next = omega (arith, mul-le-mul_right (most_in s + 1) up, suc-mul i (most_in s + 1))

    part_read : {bytes : List ℕ} {at : ℕ} {r : Option ℕ} {lent : List ℕ}
        → PartRead (form_of s (suc (suc j))) (most_in s) (part_open s (suc (suc j))) bytes at lent sub r
        → length new ≡ length old → FieldRead s rs floor (suc (suc j)) bytes at old new r
    part_read {bytes} {at} {r} q size = record {
      size = size;
      answer = λ x g k. into x g k r q.answer;
    }
      where
        stands : (x : Fields) → GoodTo (FieldGood s rs floor) (suc (suc j)) x → GoodTo (FlatField (most_in s) old) (suc (suc j)) x
            → {next : ℕ} → ParsedInto Good bytes_of bytes at (FlatPart sub 0) next
            → ParsedInto (λ y. SameTo FieldSame (suc (suc j)) x y × FieldGood s rs floor (suc (suc j)) y) (field_bytes s (suc (suc j))) bytes at
            (GoodTo (FlatField (most_in s) new) (suc (suc (suc j)))) next
        stands x g k {next} v =
            let p = v.value in
            let good = v.parsed.is_good in
            let e : get_or (put_part x.parts j p) j (Part.listed []) ≡ p = put_same x.parts j p in
            record {
              value = with_part x j p;
              parsed =
                  record {
                    is_good = (same_with x p j (omega arith), subst Good (sym e) good);
                    shape = v.parsed.shape ∙ ap (λ (t : Part ℕ). bytes_of t ++ drop next bytes) (sym e);
                    ends = v.parsed.ends ∙ ap (λ (t : Part ℕ). at + length (bytes_of t)) (sym e);
                    room = v.parsed.room;
                  };
              put = (
                flat_with x p j (omega arith) g k,
                subst (FlatPart new (place j)) (sym e)
                    (part_moves (form_of s (suc (suc j))) sub new 0 (place j) (most_in s) (back_at (place j) old sub room)
                    (λ n l. ap (take n) (back (place j) old sub room)) (part_open s (suc (suc j))) p good v.put),
              );
            }

        into : (x : Fields) → GoodTo (FieldGood s rs floor) (suc (suc j)) x → GoodTo (FlatField (most_in s) old) (suc (suc j)) x
            → (o : Option ℕ) → AnswerInto Good bytes_of bytes at (FlatPart sub 0) o
            → AnswerInto (λ y. SameTo FieldSame (suc (suc j)) x y × FieldGood s rs floor (suc (suc j)) y) (field_bytes s (suc (suc j))) bytes at
            (GoodTo (FlatField (most_in s) new) (suc (suc (suc j)))) o
        into x g k None u = λ z t h e. u (part_at z j) t h.1 e
        into x g k (Some next) v = stands x g k v

-- the place of a part is within the row
abbrev pub part_place : ℕ → ℕ → ℕ
part_place m k = 2 + (k - 2) * (m + 1)

pub place_room : (s : Section) {m : ℕ} → m ≡ most_in s → (k : ℕ) → 2 ≤ k → k < field_count s
    → (part_place m k + (m + 1) ≤ row_width s) × (part_place m k + (m + 1) ≤ 53)
place_room s e k h l = subst (λ (m : ℕ). (part_place m k + (m + 1) ≤ row_width s) × (part_place m k + (m + 1) ≤ 53)) (sym e) (by s l)
  where
    by : (s : Section) → k < field_count s
        → (part_place (most_in s) k + (most_in s + 1) ≤ row_width s) × (part_place (most_in s) k + (most_in s + 1) ≤ 53)
    by (Section.Bundles v) l = (omega arith, omega arith)
    by (Section.Connections v) l = (omega arith, omega arith)

-- a part was put to its places
module _ {s : Section} {rs : List ℕ} {floor : ℕ} {bytes : List ℕ} {at : ℕ} (old : List ℕ) {m k : ℕ} (e : m ≡ most_in s) (two : 2 ≤ k) where
  pub part_put : part_place m k ≤ length old → {lent sub : List ℕ} {r : Option ℕ}
      → PartRead (form_of s k) (most_in s) (part_open s k) bytes at lent sub r
      → length (put_mid (part_place m k) (length old - part_place m k) old sub) ≡ length old
      → FieldRead s rs floor k bytes at old (put_mid (part_place m k) (length old - part_place m k) old sub) r
  part_put room {lent} {sub} {r} q size =
      subst (λ (l : List ℕ). FieldRead s rs floor k bytes at old l r) (sym whole)
      (subst (λ (i : ℕ). FieldRead s rs floor i bytes at old (take (part_place m k) old ++ sub) r) two_more
      (subst (λ (n : ℕ). FieldRead s rs floor (suc (suc (k - 2))) bytes at old (take (part_place n k) old ++ sub) r) (sym e)
      (part_read s rs floor old sub (k - 2) (subst (λ (n : ℕ). part_place n k ≤ length old) e room)
      (subst (λ (i : ℕ). PartRead (form_of s i) (most_in s) (part_open s i) bytes at lent sub r) (sym two_more) q)
      (subst (λ (n : ℕ). length (take (part_place n k) old ++ sub) ≡ length old) e (sym (ap length whole) ∙ size)))))
    where
      two_more : suc (suc (k - 2)) ≡ k
      two_more = omega arith

      whole : put_mid (part_place m k) (length old - part_place m k) old sub ≡ take (part_place m k) old ++ sub
      whole =
          ap (λ (l : List ℕ). take (part_place m k) old ++ (sub ++ l)) (Post-is (part_place m k) (length old) old room ∙ drop-length old)
          ∙ ap (λ (l : List ℕ). take (part_place m k) old ++ l) (append-nil sub)
