-- Laws of decimal text.
use mathlib.Core.Path.{◌≡◌, refl, sym, ap, ◌∙◌, subst}
use mathlib.Core.Bool.{Bool, true, false}
use mathlib.Core.List.{List, [], ◌∷◌}
use Prim.Native.Nat.{ℕ, zero, suc, ◌+◌, ◌-◌, ◌*◌, ◌/◌, ◌%◌, ◌^◌, ◌≤◌, ◌<◌, max}
use native.Mathlib.Nat.{pow-suc, div-one, div-eq_of_lt, div-div-eq-div-mul}
use native.Mathlib.Decide.{dec_lt}
use native.Mathlib.Omega.{arith}
use borrow.Author.Tests.{lt-ltb, le-ltb}
use lib.Dec.{ltb}
use lib.ListN.{length, set, length-append}
use Rattle.region_graph.specs.Lists.{pick}
use Rattle.region_graph.proofs.Lists.{pick_yes, pick_no}
use Rattle.text_lines.specs.Written.{WrittenAt}
use Rattle.text_lines.specs.Decimal.{digit_count, last_digits, most_digits, decimal, decimal_field}
use Rattle.text_lines.proofs.Writes.{wrote_none, wrote_is, wrote_before}

last_length : (w n : ℕ) → length (last_digits w n) ≡ w
last_length zero n = refl
last_length (suc w) n = ap suc (last_length w n)

-- a number's text has as many bytes as it has digits
pub decimal_length : (n : ℕ) → length (decimal n) ≡ digit_count most_digits n
unfolding decimal
decimal_length n = last_length (digit_count most_digits n) n

-- the digits of a number are its text
pub decimal_is : {w : ℕ} (n : ℕ) → w ≡ digit_count most_digits n → last_digits w n ≡ decimal n
unfolding decimal
decimal_is n e = ap (λ (k : ℕ). last_digits k n) e

-- the lengths of the texts, by a count of the digits
pub decimal_size : {w : ℕ} (n : ℕ) → w ≡ digit_count most_digits n → length (decimal n) ≡ w
decimal_size n e = decimal_length n ∙ sym e

pub field_size : {w : ℕ} (n end : ℕ) → w ≡ digit_count most_digits n → length (decimal_field n end) ≡ w + 1
field_size n end e = omega (arith, length-append (decimal n) (end ∷ []), decimal_size n e)

-- one digit, and one digit more
count_one : (k n : ℕ) → n < 10 → digit_count (suc k) n ≡ 1
count_one k n h = pick_yes 1 (suc (digit_count k (n / 10))) (lt-ltb n 10 h)

count_more : (k n : ℕ) → 10 ≤ n → digit_count (suc k) n ≡ suc (digit_count k (n / 10))
count_more k n h = pick_no 1 (suc (digit_count k (n / 10))) (le-ltb n 10 h)

-- no number's text has more than ten digits
pub count_most : (k n : ℕ) → digit_count k n ≤ k
count_most zero n = omega arith
count_most (suc k) n = go (ltb n 10) (count_most k (n / 10))
  where
    go : (b : Bool) → digit_count k (n / 10) ≤ k → pick b 1 (suc (digit_count k (n / 10))) ≤ suc k
    go true r = omega arith
    go false r = omega arith

pub decimal_most : (n : ℕ) → length (decimal n) ≤ most_digits
decimal_most n = omega (arith, decimal_length n, count_most most_digits n)

-- a number below 10 ^ j has at most j digits
count_few : (k j n : ℕ) → n < 10 ^ suc j → digit_count k n ≤ suc j
count_few zero j n h = omega arith
count_few (suc k) zero n h = omega (arith, count_one k n (omega arith))
count_few (suc k) (suc j) n h = go (ltb n 10) (count_few k j (n / 10) less)
  where
    less : n / 10 < 10 ^ suc j
    less = let e = pow-suc 10 (suc j) in omega (arith, e)

    go : (b : Bool) → digit_count k (n / 10) ≤ suc j → pick b 1 (suc (digit_count k (n / 10))) ≤ suc (suc j)
    go true r = omega arith
    go false r = omega arith

-- nor its text more bytes
pub decimal_few : (j n : ℕ) → n < 10 ^ suc j → length (decimal n) ≤ suc j
decimal_few j n h = omega (arith, decimal_length n, count_few most_digits j n h)

-- a number from 10 ^ j on and below 10 ^ (j + 1) has j + 1 digits, and 0 has one
pub count_is : (k j n : ℕ) → j < k → 10 ^ j ≤ max n 1 → max n 1 < 10 * 10 ^ j → j + 1 ≡ digit_count k n
count_is zero j n l lo hi = absurd (omega arith)
count_is (suc k) zero n l lo hi = omega (arith, count_one k n (omega arith))
count_is (suc k) (suc j) n l lo hi =
    let e = pow-suc 10 j in
    omega (arith, count_is k j (n / 10) (omega arith) (omega (arith, e)) (omega (arith, e)), count_more k n (omega (arith, e)))

-- what is left of a number above one digit more
digit_next : (n k : ℕ) → n / 10 ^ k / 10 ≡ n / 10 ^ suc k
digit_next n k = div-div-eq-div-mul n (10 ^ k) 10 ∙ ap (λ (p : ℕ). n / p) (sym (pow-suc 10 k))

-- a loop has written the last digits of a number, all but the first `left` of them, and `rest` is what is left of the number above them
pub record LastWritten (old : List ℕ) (at width n : ℕ) (new : List ℕ) (left rest : ℕ) : Type 0 where
  pub upto : left ≤ width
  pub above : rest ≡ n / 10 ^ (width - left)
  pub wrote : WrittenAt old new (at + left) (last_digits (width - left) n) (at + width)

module _ {old : List ℕ} {at width n : ℕ} where
  pub last_start : at + width ≤ length old → LastWritten old at width n old width n
  last_start h =
      let e : width - width ≡ 0 = omega arith in
      record { upto = omega arith; above = rw e (sym (div-one n)); wrote = rw e (wrote_none old (at + width) h) }

  module _ {new : List ℕ} {left rest : ℕ} (d : LastWritten old at width n new left rest) where
    -- the next higher digit, in front of the lower ones
    pub last_next : 0 < left → LastWritten old at width n (set new (at + (left - 1)) (rest % 10 + 48)) (left - 1) (rest / 10)
    last_next h =
        let k = width - left in
        let e : width - (left - 1) ≡ suc k = omega (arith, d.upto) in
        record {
          upto = omega (arith, d.upto);
          above = ap (λ (q : ℕ). q / 10) d.above ∙ digit_next n k ∙ ap (λ (j : ℕ). n / 10 ^ j) (sym e);
          wrote =
              wrote_is (ap (λ (q : ℕ). (q % 10 + 48) ∷ last_digits k n) d.above ∙ ap (λ (j : ℕ). last_digits j n) (sym e))
              (wrote_before (rest % 10 + 48) (omega arith) d.wrote);
        }

    pub last_end : left ≡ 0 → WrittenAt old new at (last_digits width n) (at + width)
    last_end z =
        let e : width - left ≡ width = omega arith in
        let f : at + left ≡ at = omega arith in
        rw (e, f) at d.wrote

-- the number that digits say, after a number in front of them
abbrev pub said : ℕ → List ℕ → ℕ
said v [] = v
said v (d ∷ ds) = said (v * 10 + (d - 48)) ds

last_said : (w n : ℕ) → said (n / 10 ^ w) (last_digits w n) ≡ n
last_said zero n = div-one n
last_said (suc w) n = ap (λ (v : ℕ). said v (last_digits w n)) e ∙ last_said w n
  where
    e : n / 10 ^ suc w * 10 + (n / 10 ^ w % 10 + 48 - 48) ≡ n / 10 ^ w
    e = omega (arith, digit_next n w)

count_enough : (k n : ℕ) → n < 10 ^ suc k → n < 10 ^ digit_count (suc k) n
count_enough zero n h = subst (λ (c : ℕ). n < 10 ^ c) (sym (count_one 0 n (omega arith))) (omega arith)
count_enough (suc k) n h = go (dec_lt n 10) (count_enough k (n / 10) (omega (arith, pow-suc 10 (suc k))))
  where
    go : Dec (n < 10) → n / 10 < 10 ^ digit_count (suc k) (n / 10) → n < 10 ^ digit_count (suc (suc k)) n
    go (yes l) r = subst (λ (c : ℕ). n < 10 ^ c) (sym (count_one (suc k) n l)) (omega arith)
    go (no l) r =
        subst (λ (c : ℕ). n < 10 ^ c) (sym (count_more (suc k) n (omega arith))) (omega (arith, r, pow-suc 10 (digit_count (suc k) (n / 10))))

-- a number's text says it, and no digit more than it has
pub decimal_said : (n : ℕ) → n < 10 ^ most_digits → said 0 (decimal n) ≡ n
unfolding decimal
decimal_said n h =
    let w = digit_count most_digits n in
    ap (λ (v : ℕ). said v (last_digits w n)) (sym (div-eq_of_lt (count_enough 9 n h))) ∙ last_said w n

count_needed : (k n : ℕ) → 0 < n → 10 ^ digit_count k n ≤ n * 10
count_needed zero n h = omega arith
count_needed (suc k) n h = go (dec_lt n 10) (count_needed k (n / 10))
  where
    go : Dec (n < 10) → (0 < n / 10 → 10 ^ digit_count k (n / 10) ≤ n / 10 * 10) → 10 ^ digit_count (suc k) n ≤ n * 10
    go (yes l) r = subst (λ (c : ℕ). 10 ^ c ≤ n * 10) (sym (count_one k n l)) (omega arith)
    go (no l) r = subst (λ (c : ℕ). 10 ^ c ≤ n * 10) (sym (count_more k n (omega arith))) (omega (arith, r (omega arith), pow-suc 10 (digit_count k (n / 10))))

pub decimal_short : (n : ℕ) → 0 < n → 10 ^ length (decimal n) ≤ n * 10
decimal_short n h = subst (λ (c : ℕ). 10 ^ c ≤ n * 10) (sym (decimal_length n)) (count_needed most_digits n h)
