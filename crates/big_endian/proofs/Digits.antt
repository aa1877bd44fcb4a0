-- The bytes of a number, and a number of whose bytes there is one more at the end.
use mathlib.Core.Path.{◌≡◌, refl, sym, ap, ◌∙◌, subst}
use mathlib.Core.List.{List, [], ◌∷◌, ◌++◌, append_assoc, append-nil}
use Prim.Native.Nat.{ℕ, zero, suc, ◌+◌, ◌*◌, ◌/◌, ◌%◌, ◌^◌, ◌≤◌, ◌<◌}
use native.Mathlib.Numerals.{add-one}
use native.Mathlib.Nat.{add-zero, zero-add, suc-add, pow-suc, mul_comm, div-one, mod-eq_of_lt, div-div-eq-div-mul, lt_of_lt_of_le, pow-le-pow_right}
use native.Mathlib.Omega.{arith}
use lib.ListN.{length, take, drop, get_or}
use lib.Seq.{drop-cons}
use Rattle.std.proofs.lemmas.List.{take_more}
use Rattle.big_endian.specs.Bytes.{big}
use Rattle.big_endian.specs.Parsing.{Parsed}

pub big_length : (w n : ℕ) → length (big w n) ≡ w
big_length zero n = refl
big_length (suc w) n = ap suc (big_length w n)

-- a number of one byte
pub big_one : (n : ℕ) → n < 256 → big 1 n ≡ n ∷ []
big_one n h = ap (λ (m : ℕ). m ∷ []) (ap (λ (m : ℕ). m % 256) (div-one n) ∙ mod-eq_of_lt h)

-- what is left of a number above one byte more
pub div_next : (n k : ℕ) → n / 256 ^ k / 256 ≡ n / 256 ^ suc k
div_next n k = div-div-eq-div-mul n (256 ^ k) 256 ∙ ap (λ (p : ℕ). n / p) (sym (pow-suc 256 k))

-- one byte more
pub drop_byte : (s : List ℕ) (at : ℕ) → at < length s → drop at s ≡ get_or s at 0 ∷ drop (at + 1) s
drop_byte s at h = rw add-one (drop-cons s at 0 h)

pub big_snoc : (w v b : ℕ) → b < 256 → big (suc w) (v * 256 + b) ≡ big w v ++ (b ∷ [])
big_snoc zero v b h = ap (λ (n : ℕ). n ∷ []) e
  where
    e : (v * 256 + b) / 1 % 256 ≡ b
    e = omega arith
big_snoc (suc w) v b h = λ i. e i ∷ big_snoc w v b h i
  where
    d : (v * 256 + b) / 256 ≡ v
    d = omega arith

    e : (v * 256 + b) / 256 ^ suc w % 256 ≡ v / 256 ^ w % 256
    e =
        ap (λ (n : ℕ). (v * 256 + b) / n % 256) (pow-suc 256 w ∙ mul_comm (256 ^ w) 256)
        ∙ ap (λ (n : ℕ). n % 256) (sym (div-div-eq-div-mul (v * 256 + b) 256 (256 ^ w)) ∙ ap (λ (n : ℕ). n / 256 ^ w) d)

-- the bytes of two numbers, one behind the other, are those of one number
pub big_join : (a b n r : ℕ) → r < 256 ^ b → big (b + a) (n * 256 ^ b + r) ≡ big a n ++ big b r
big_join a zero n r h =
    let e : n * 256 ^ 0 + r ≡ n = omega arith in
    (λ i. big (zero-add a i) (e i)) ∙ sym (append-nil (big a n))
big_join a (suc b) n r h =
    let q = r / 256 in
    let l = r % 256 in
    let small : l < 256 = omega arith in
    let whole : q * 256 + l ≡ r = omega arith in
    let above : q < 256 ^ b = omega (arith, pow-suc 256 b, h) in
    let e : n * 256 ^ suc b + r ≡ (n * 256 ^ b + q) * 256 + l = rw pow-suc (omega arith) in
    (λ i. big (suc-add b a i) (e i)) ∙ big_snoc (b + a) (n * 256 ^ b + q) l small
    ∙ ap (λ (s : List ℕ). s ++ (l ∷ [])) (big_join a b n q above) ∙ append_assoc (big a n) (big b q) (l ∷ [])
    ∙ ap (λ (s : List ℕ). big a n ++ s) (sym (big_snoc b q l small) ∙ ap (big (suc b)) whole)

pub small_snoc : (w v b : ℕ) → v < 256 ^ w → b < 256 → v * 256 + b < 256 ^ suc w
small_snoc w v b h k = rw pow-suc (omega arith)

-- the number that the first bytes give, with one byte more
pub number_more : (s : List ℕ) {i n b : ℕ} → (n < 256 ^ i) × (big i n ≡ take i s) → i < length s → b ≡ get_or s i 0 → b < 256
    → (n * 256 + b < 256 ^ (i + 1)) × (big (i + 1) (n * 256 + b) ≡ take (i + 1) s)
number_more s {i} {n} {b} d h e k =
    let snoc : big (i + 1) (n * 256 + b) ≡ big i n ++ (b ∷ []) = rw add-one (big_snoc i n b k) in
    (rw add-one (small_snoc i n b d.0 k), snoc ∙ (λ j. d.1 j ++ (e j ∷ [])) ∙ sym (take_more s i 0 h))

-- the first i bytes of a number stand at a place
pub record Digits (s : List ℕ) (at i n : ℕ) : Type 0 where
  pub small : n < 256 ^ i
  pub shape : drop at s ≡ big i n ++ drop (at + i) s

pub digits_none : (s : List ℕ) (at : ℕ) → Digits s at 0 0
digits_none s at = record { small = omega arith; shape = rw add-zero refl }

pub digits_more : {s : List ℕ} {at i n : ℕ} → Digits s at i n → at + i < length s → {b : ℕ} → b ≡ get_or s (at + i) 0 → b < 256
    → Digits s at (i + 1) (n * 256 + b)
digits_more {s} {at} {i} {n} d h {b} e k =
    record {
      small = rw add-one (small_snoc i n b d.small k);
      shape =
          let rest = drop (at + (i + 1)) s in
          let f : at + i + 1 ≡ at + (i + 1) = omega arith in
          let next : drop (at + i) s ≡ b ∷ rest = drop_byte s (at + i) h ∙ (λ j. sym e j ∷ drop (f j) s) in
          let snoc : big i n ++ (b ∷ []) ≡ big (i + 1) (n * 256 + b) = rw add-one (sym (big_snoc i n b k)) in
          d.shape ∙ ap (λ (l : List ℕ). big i n ++ l) next ∙ sym (append_assoc (big i n) (b ∷ []) rest) ∙ ap (λ (l : List ℕ). l ++ rest) snoc;
    }

-- a number of i bytes is one of at most w bytes, for i at most w
pub small_within : {i w n : ℕ} → i ≤ w → n < 256 ^ i → n < 256 ^ w
small_within {i} {w} h k = lt_of_lt_of_le k (pow-le-pow_right (omega arith) h)

-- a number with one byte more
pub next_within : {i w n b : ℕ} → i < w → n < 256 ^ i → b < 256 → n * 256 + b < 256 ^ w
next_within {i} {n = n} {b} h k l = small_within {i = suc i} h (small_snoc i n b k l)

pub digits_all : {s : List ℕ} {at i n w : ℕ} → Digits s at i n → i ≡ w → at + w ≤ length s → Parsed (λ m. m < 256 ^ w) (big w) s at n (at + w)
digits_all {s} {at} {i} {n} {w} d e h =
    record {
      is_good = subst (λ (k : ℕ). n < 256 ^ k) e d.small;
      shape = subst (λ (k : ℕ). drop at s ≡ big k n ++ drop (at + k) s) e d.shape;
      ends = rw big_length refl;
      room = h;
    }
