-- Bytes tell values apart: laws of encodings in which each value's end shows, for any element and any width.
use mathlib.Core.Path.{◌≡◌, sym, ap, ◌∙◌}
use mathlib.Core.List.{List, [], ◌∷◌, ◌++◌}
use Prim.Native.Nat.{ℕ, zero, suc, ◌+◌, ◌-◌, ◌*◌, ◌/◌, ◌%◌, ◌^◌, ◌≤◌, ◌<◌}
use native.Mathlib.Nat.{add-mul, mul_assoc, mul_comm, pow-suc, mod-lt, mod-one, mod-eq_of_lt, div-add-mod', add-mul-mod_self_right, mul-le-mul_right}
use native.Mathlib.Omega.{arith}
use lib.ListN.{length, length-append, length-drop}
use Rattle.big_endian.specs.Bytes.{big}
use Rattle.big_endian.specs.Parsing.{Unparsed}

-- the bytes of good values, whatever follows them, tell the values apart and where they end
abbrev pub Delimits : {A : Type 0} → (A → Type 0) → (A → List ℕ) → (A → A → Type 0) → Type 0
Delimits {A} good bytes same = (x y : A) (r t : List ℕ) → good x → good y → bytes x ++ r ≡ bytes y ++ t → same x y × (r ≡ t)

pub head_same : {a b : ℕ} {r t : List ℕ} → a ∷ r ≡ b ∷ t → a ≡ b
head_same e = cc

pub tail_same : {a b : ℕ} {r t : List ℕ} → a ∷ r ≡ b ∷ t → r ≡ t
tail_same e = cc

-- a number's remainder, by the next lower byte
mod_step : (m p : ℕ) → 0 < p → m % (p * 256) ≡ m / p % 256 * p + m % p
mod_step m p h =
    ap (λ (n : ℕ). n % (p * 256)) whole ∙ add-mul-mod_self_right (m / p % 256 * p + m % p) (m / p / 256) (p * 256) ∙ mod-eq_of_lt small
  where
    whole : m ≡ m / p % 256 * p + m % p + m / p / 256 * (p * 256)
    whole =
        let a = m / p / 256 in
        let b = m / p % 256 in
        let c : a * 256 * p ≡ a * (p * 256) = mul_assoc a 256 p ∙ ap (λ (n : ℕ). a * n) (mul_comm 256 p) in
        let e : m / p * p ≡ a * 256 * p + b * p = ap (λ (n : ℕ). n * p) (sym (div-add-mod' (m / p) 256)) ∙ add-mul (a * 256) b p in
        omega (arith, div-add-mod' m p)

    small : m / p % 256 * p + m % p < p * 256
    small =
        let a : m / p % 256 + 1 ≤ 256 = omega (arith, mod-lt (m / p) {m = 256} (omega arith)) in
        let b : (m / p % 256 + 1) * p ≤ 256 * p = mul-le-mul_right p a in
        omega (arith, mod-lt m h, add-mul (m / p % 256) 1 p, mul_comm 256 p)

pub pow_pos : (w : ℕ) → 0 < 256 ^ w
pow_pos zero = omega arith
pow_pos (suc w) = rw pow-suc (omega (arith, pow_pos w))

-- a value and the rest are read back from the bytes of a good value and what follows them
pub record Reader {A : Type 0} (good : A → Type 0) (bytes : A → List ℕ) : Type 0 where
  pub read : List ℕ → A × List ℕ
  pub back : (x : A) (r : List ℕ) → good x → read (bytes x ++ r) ≡ (x, r)

-- what can be read back is told apart by its bytes
pub reader_same : {A : Type 0} (good : A → Type 0) (bytes : A → List ℕ) → Reader good bytes → Delimits good bytes ◌≡◌
reader_same {A} good bytes p x y r t h g e =
    let d : ◌≡◌ {A = A × List ℕ} (x, r) (y, t) = sym (p.back x r h) ∙ ap p.read e ∙ p.back y t g in
    (ap (λ q. q.0) d, ap (λ q. q.1) d)

-- a number's bytes, added up
read_big : ℕ → List ℕ → ℕ × List ℕ
read_big zero s = (0, s)
read_big (suc w) [] = (0, [])
read_big (suc w) (b ∷ s) = (b * 256 ^ w + (read_big w s).0, (read_big w s).1)

-- give the number, as far as w bytes hold it
big_back : (w n : ℕ) (r : List ℕ) → read_big w (big w n ++ r) ≡ (n % 256 ^ w, r)
unfolding read_big
big_back zero n r = λ i. (sym (mod-one n) i, r)
big_back (suc w) n r =
    (λ i. (n / 256 ^ w % 256 * 256 ^ w + (big_back w n r i).0, (big_back w n r i).1))
    ∙ (λ i. ((sym (mod_step n (256 ^ w) (pow_pos w)) ∙ ap (λ (m : ℕ). n % m) (sym (pow-suc 256 w))) i, r))

-- a number of w bytes
pub read_number : (w : ℕ) → Reader (λ n. n < 256 ^ w) (big w)
read_number w = record { read = read_big w; back = λ n r h. big_back w n r ∙ (λ i. (mod-eq_of_lt h i, r)) }

-- four bytes make the number that they are of
pub word_bytes : (n : ℕ) → n < 256 ^ 4 → n / 256 ^ 3 % 256 * 16777216 + n / 256 ^ 2 % 256 * 65536 + n / 256 ^ 1 % 256 * 256 + n / 256 ^ 0 % 256 ≡ n
unfolding read_big
word_bytes n h = omega (arith, ap (λ q. q.0) (big_back 4 n []), mod-eq_of_lt h)

-- numbers of one width
pub big_same : (w : ℕ) → Delimits (λ n. n < 256 ^ w) (big w) ◌≡◌
big_same w = reader_same (λ n. n < 256 ^ w) (big w) (read_number w)

-- bytes that are cut short
pub unparsed_short : {A : Type 0} (good : A → Type 0) (bytes : A → List ℕ) (w : ℕ) → ((x : A) → w ≤ length (bytes x))
    → (s : List ℕ) (at : ℕ) → length s - at < w → Unparsed good bytes s at
unparsed_short good bytes w h s at k x r g e =
    omega (arith, h x, sym (length-drop at s) ∙ ap length e ∙ length-append (bytes x) r)
