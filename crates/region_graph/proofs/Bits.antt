-- The digits of and, or, a power of two and a complement; the lowest set digit; a set as the digits of a number. Assumes nothing.
use mathlib.Core.Path.{◌≡◌, refl, sym, ap, ap₂, ◌∙◌, subst}
use mathlib.Core.Logic.{◌⊎◌, inl, inr}
use mathlib.Core.Bool.{Bool, true, false, not, ◌&&◌, ◌||◌}
use Prim.Native.Nat.{ℕ, zero, suc, ◌+◌, ◌-◌, ◌*◌, ◌/◌, ◌%◌, ◌^◌, ◌≤◌, ◌<◌, zero-le, suc-le-suc, min, max}
use native.Mathlib.Nat.{mod-lt, pow-suc, div-lt_iff_lt-mul, zero-lt-suc, le_of_suc-le-suc, mul-div_cancel, mul-mod_left, not-suc-le-zero}
use native.Mathlib.Nat.{one-mul, div-one, pow-succ', div-div-eq-div-mul, eq-or-lt_of_le, lt_of_lt_of_le, lt_of_le_of_lt}
use native.Mathlib.Decide.{ℕ_discrete}
use native.Mathlib.Omega.{arith}
use lib.Dec.{eqb, ltb, lit≤}
use lib.Arith.{digits_div, digits_mod, lt-one}
use lib.Pow.{pow_pos, pow_mono, pow-lt}
use lib.Bits.{bit_and, bit_or, and_step, or_step, and_le_l, or_lt, or_zero_r, or_shifted_r}
use lib.Count.{count_trailing_zeros, under}
use borrow.Author.Tests.{ltb-true, lt-ltb, eqb-true, eqb-false}
use Rattle.region_graph.specs.Size.{regions}
use Rattle.region_graph.specs.Lists.{pick}
use Rattle.region_graph.specs.Sets.{bit, has, singleton, set_below, set_of}

-- a digit is 0 or 1
pub bit_le : (x n : ℕ) → bit x n ≤ 1
unfolding bit
bit_le x zero = omega (arith, mod-lt x (zero-lt-suc 1))
bit_le x (suc n) = bit_le (x / 2) n

-- ---- and, or, a power of two, a complement

module _ (op f : ℕ → ℕ → ℕ) (step : (a b : ℕ) → op a b ≡ op (a / 2) (b / 2) * 2 + f (a % 2) (b % 2))
    (small : (x y : ℕ) → x ≤ 1 → y ≤ 1 → f x y < 2) where
  -- the lowest digit is a digit
  low_lt : (a b : ℕ) → f (a % 2) (b % 2) < 2
  low_lt a b = small (a % 2) (b % 2) (omega arith) (omega arith)

  -- any operation that works digit by digit
  pub bit_op : (a b n : ℕ) → bit (op a b) n ≡ f (bit a n) (bit b n)
  unfolding bit
  bit_op a b zero = ap (λ (x : ℕ). x % 2) (step a b) ∙ digits_mod (op (a / 2) (b / 2)) (low_lt a b)
  bit_op a b (suc n) =
      ap (λ (x : ℕ). bit (x / 2) n) (step a b) ∙ ap (λ (x : ℕ). bit x n) (digits_div (op (a / 2) (b / 2)) (low_lt a b))
      ∙ bit_op (a / 2) (b / 2) n

-- and is the smaller digit
pub bit_of_and : (a b n : ℕ) → bit (bit_and a b) n ≡ min (bit a n) (bit b n)
bit_of_and = bit_op bit_and min and_step (λ x y h k. omega arith)

-- or is the larger digit
pub bit_of_or : (a b n : ℕ) → bit (bit_or a b) n ≡ max (bit a n) (bit b n)
bit_of_or = bit_op bit_or max or_step (λ x y h k. omega arith)

-- 0 has no digit set
pub bit_zero : (n : ℕ) → bit 0 n ≡ 0
unfolding bit
bit_zero zero = refl
bit_zero (suc n) = bit_zero n

-- half of a power of two
pow_half : (k : ℕ) → 2 ^ suc k / 2 ≡ 2 ^ k
pow_half k = ap (λ (x : ℕ). x / 2) (pow-suc 2 k) ∙ mul-div_cancel (2 ^ k) (zero-lt-suc 1)

-- a power of two above 1 is even
pow_even : (k : ℕ) → 2 ^ suc k % 2 ≡ 0
pow_even k = ap (λ (x : ℕ). x % 2) (pow-suc 2 k) ∙ mul-mod_left (2 ^ k) 2

-- half of a number has one digit less
half_lt : (x k : ℕ) → x < 2 ^ suc k → x / 2 < 2 ^ k
half_lt x k h = (div-lt_iff_lt-mul (zero-lt-suc 1)).1 (subst (λ (m : ℕ). x < m) (pow-suc 2 k) h)

-- a power of two has its own digit set
pub bit_one : (n : ℕ) → bit (2 ^ n) n ≡ 1
unfolding bit
bit_one zero = refl
bit_one (suc n) = ap (λ (x : ℕ). bit x n) (pow_half n) ∙ bit_one n

-- a power of two has no other digit set
pub bit_other : (r n : ℕ) → (n ≡ r → ⊥) → bit (2 ^ r) n ≡ 0
unfolding bit
bit_other zero zero f = absurd (f refl)
bit_other zero (suc n) f = bit_zero n
bit_other (suc r) zero f = pow_even r
bit_other (suc r) (suc n) f = ap (λ (x : ℕ). bit x n) (pow_half r) ∙ bit_other r n (λ e. f (ap suc e))

-- a digit by a shift
pub bit_shift : (x n : ℕ) → x / 2 ^ n % 2 ≡ bit x n
unfolding bit
bit_shift x zero = ap (λ (y : ℕ). y % 2) (div-one x)
bit_shift x (suc n) =
    ap (λ (y : ℕ). y % 2) (ap (λ (y : ℕ). x / y) (pow-succ' 2 n) ∙ sym (div-div-eq-div-mul x 2 (2 ^ n))) ∙ bit_shift (x / 2) n

-- the complement at one digit more: that of the half, and the lowest digit turned
comp_step : (w y : ℕ) → y < 2 ^ suc w → (2 ^ suc w - 1) - y ≡ ((2 ^ w - 1) - y / 2) * 2 + (1 - y % 2)
comp_step w y h = omega (arith, pow-suc 2 w, half_lt y w h)

-- the complement at w digits has each of them turned
pub bit_not : (w y n : ℕ) → y < 2 ^ w → n < w → bit ((2 ^ w - 1) - y) n ≡ 1 - bit y n
unfolding bit
bit_not zero y n h k = absurd (not-suc-le-zero k)
bit_not (suc w) y zero h k = ap (λ (x : ℕ). x % 2) (comp_step w y h) ∙ digits_mod ((2 ^ w - 1) - y / 2) (omega arith)
bit_not (suc w) y (suc n) h k =
    ap (λ (x : ℕ). bit (x / 2) n) (comp_step w y h)
    ∙ ap (λ (x : ℕ). bit x n) (digits_div ((2 ^ w - 1) - y / 2) (omega arith))
    ∙ bit_not w (y / 2) n (half_lt y w h) (le_of_suc-le-suc k)

-- a number below 2 ^ k has no digit set from k on
pub in_lt : (k x n : ℕ) → x < 2 ^ k → bit x n ≡ 1 → n < k
unfolding bit
in_lt zero x n h i = omega (arith, i, bit_zero n, ap (λ (m : ℕ). bit m n) (lt-one h))
in_lt (suc k) x zero h i = suc-le-suc zero-le
in_lt (suc k) x (suc n) h i = suc-le-suc (in_lt k (x / 2) n (half_lt x k h) i)

-- the digits from k on of a number below 2 ^ k
bit_out : (k x n : ℕ) → x < 2 ^ k → k ≤ n → bit x n ≡ 0
bit_out k x n h l = let f : bit x n ≡ 1 → ⊥ = λ i. omega (arith, in_lt k x n h i) in omega (arith, bit_le x n)

-- ---- the lowest member

-- the lowest set digit is set
pub low_in : (w x : ℕ) → 0 < x → x < 2 ^ w → bit x (count_trailing_zeros w x) ≡ 1
unfolding bit count_trailing_zeros
low_in zero x h k = omega arith
low_in (suc w) x h k = go (x % 2) refl (λ (e : x % 2 ≡ 0). low_in w (x / 2) (omega arith) (half_lt x w k))
  where
    go : (r : ℕ) → x % 2 ≡ r → (x % 2 ≡ 0 → bit (x / 2) (count_trailing_zeros w (x / 2)) ≡ 1) → bit x (under r (count_trailing_zeros w (x / 2))) ≡ 1
    go zero e ih = ih e
    go (suc r) e ih = omega arith

-- no set digit is lower
pub low_first : (w x n : ℕ) → bit x n ≡ 1 → count_trailing_zeros w x ≤ n
unfolding bit count_trailing_zeros
low_first zero x n h = zero-le
low_first (suc w) x n h = go (x % 2) n refl h (λ m i. low_first w (x / 2) m i)
  where
    go : (r n : ℕ) → x % 2 ≡ r → bit x n ≡ 1 → ((m : ℕ) → bit (x / 2) m ≡ 1 → count_trailing_zeros w (x / 2) ≤ m)
        → under r (count_trailing_zeros w (x / 2)) ≤ n
    go zero zero e i ih = omega arith
    go zero (suc n) e i ih = suc-le-suc (ih n i)
    go (suc r) n e i ih = zero-le

-- a number from 2 ^ k on has a digit set from k on
pub high_in : (k w x : ℕ) → 2 ^ k ≤ x → x < 2 ^ w → (n : ℕ) × (k ≤ n) × (bit x n ≡ 1)
unfolding bit
high_in zero w x h l = (count_trailing_zeros w x, zero-le, low_in w x h l)
high_in (suc k) w x h l =
    let i = high_in k w (x / 2) (omega (arith, pow-suc 2 k)) (omega arith) in (suc i.0, suc-le-suc i.1, i.2)

-- one less has the lowest set digit no more
low_out : (w x : ℕ) → 0 < x → x < 2 ^ w → bit (x - 1) (count_trailing_zeros w x) ≡ 0
unfolding bit count_trailing_zeros
low_out zero x h k = omega arith
low_out (suc w) x h k = go (x % 2) refl (λ (e : x % 2 ≡ 0). low_out w (x / 2) (omega arith) (half_lt x w k))
  where
    go : (r : ℕ) → x % 2 ≡ r → (x % 2 ≡ 0 → bit (x / 2 - 1) (count_trailing_zeros w (x / 2)) ≡ 0) → bit (x - 1) (under r (count_trailing_zeros w (x / 2))) ≡ 0
    go zero e ih =
        let half : (x - 1) / 2 ≡ x / 2 - 1 = omega arith in
        ap (λ (y : ℕ). bit y (count_trailing_zeros w (x / 2))) half ∙ ih e
    go (suc r) e ih = omega arith

-- and has each other one
low_others : (w x n : ℕ) → x < 2 ^ w → (n ≡ count_trailing_zeros w x → ⊥) → bit x n ≡ 1 → bit (x - 1) n ≡ 1
unfolding bit count_trailing_zeros
low_others zero x n k u h = absurd (omega (arith, h, bit_zero n, ap (λ (m : ℕ). bit m n) (lt-one k)))
low_others (suc w) x n k u h = go (x % 2) n refl u h (λ m v i. low_others w (x / 2) m (half_lt x w k) v i)
  where
    go : (r n : ℕ) → x % 2 ≡ r → (n ≡ under r (count_trailing_zeros w (x / 2)) → ⊥) → bit x n ≡ 1
        → ((m : ℕ) → (m ≡ count_trailing_zeros w (x / 2) → ⊥) → bit (x / 2) m ≡ 1 → bit (x / 2 - 1) m ≡ 1) → bit (x - 1) n ≡ 1
    go zero zero e u h ih = absurd (omega arith)
    go zero (suc n) e u h ih =
        let half : (x - 1) / 2 ≡ x / 2 - 1 = omega arith in
        ap (λ (y : ℕ). bit y n) half ∙ ih n (λ q. u (ap suc q)) h
    go (suc r) zero e u h ih = absurd (u refl)
    go (suc r) (suc n) e u h ih =
        let half : (x - 1) / 2 ≡ x / 2 = omega arith in
        ap (λ (y : ℕ). bit y n) half ∙ h

-- ---- a number is its digits

-- two numbers of k digits with the same digits are the same
pub bit_ext : (k x y : ℕ) → x < 2 ^ k → y < 2 ^ k → ((n : ℕ) → n < k → bit x n ≡ bit y n) → x ≡ y
unfolding bit
bit_ext zero x y h l f = omega arith
bit_ext (suc k) x y h l f =
    omega (
      arith,
      f zero (suc-le-suc zero-le),
      bit_ext k (x / 2) (y / 2) (half_lt x k h) (half_lt y k l) (λ n i. f (suc n) (suc-le-suc i)),
    )

-- and with one less takes the lowest set digit away
pub lowest_off : (w x : ℕ) → 0 < x → x < 2 ^ w → bit_and x (x - 1) ≡ bit_and x (2 ^ w - 1 - 2 ^ count_trailing_zeros w x)
lowest_off w x h k =
    bit_ext w (bit_and x (x - 1)) (bit_and x turned) (lt_of_le_of_lt (and_le_l x (x - 1)) k) (lt_of_le_of_lt (and_le_l x turned) k)
    (λ n l. bit_of_and x (x - 1) n ∙ go n l (ℕ_discrete n low) ∙ sym (bit_of_and x turned n))
  where
    low : ℕ
    low = count_trailing_zeros w x

    turned : ℕ
    turned = 2 ^ w - 1 - 2 ^ low

    low_lt_w : low < w
    low_lt_w = in_lt w x low k (low_in w x h k)

    digit : (n : ℕ) → n < w → bit turned n ≡ 1 - bit (2 ^ low) n
    digit n l = bit_not w (2 ^ low) n (pow-lt low_lt_w) l

    kept : (n b : ℕ) → bit x n ≡ b → (n ≡ low → ⊥) → min (bit x n) (bit (x - 1) n) ≡ bit x n
    kept n zero e u = omega arith
    kept n (suc b) e u = omega (arith, low_others w x n k u (omega (arith, bit_le x n)), bit_le x n)

    go : (n : ℕ) → n < w → Dec (n ≡ low) → min (bit x n) (bit (x - 1) n) ≡ min (bit x n) (bit turned n)
    go n l (yes e) =
        let a : bit (x - 1) n ≡ 0 = ap (bit (x - 1)) e ∙ low_out w x h k in
        let b : bit (2 ^ low) n ≡ 1 = ap (bit (2 ^ low)) e ∙ bit_one low in
        omega (arith, digit n l)
    go n l (no u) = omega (arith, kept n (bit x n) refl u, digit n l, bit_other low n u, bit_le x n)

-- ---- sets

-- a set of one number or of none: that number's digit
own : (b : Bool) (r : ℕ) → bit (pick b (2 ^ r) 0) r ≡ pick b 1 0
own true r = bit_one r
own false r = bit_zero r

-- and every other digit
other : (b : Bool) (r n : ℕ) → (n ≡ r → ⊥) → bit (pick b (2 ^ r) 0) n ≡ 0
other true r n f = bit_other r n f
other false r n f = bit_zero n

-- a number or 0 is at most the number
pick_le : (b : Bool) (x : ℕ) → pick b x 0 ≤ x
pick_le true x = omega arith
pick_le false x = zero-le

-- a set of numbers below k has k digits
pub set_below_lt : (k : ℕ) (p : ℕ → Bool) → set_below k p < 2 ^ k
unfolding set_below
set_below_lt zero p = pow_pos 0
set_below_lt (suc k) p = omega (arith, set_below_lt k p, pick_le (p k) (2 ^ k), pow-suc 2 k)

-- a digit on top of k others is put there by or
top_or : (k x : ℕ) (b : Bool) → x < 2 ^ k → x + pick b (2 ^ k) 0 ≡ bit_or x (pick b (2 ^ k) 0)
top_or k x true h = omega (arith, or_shifted_r 1 k x h, ap (bit_or x) (one-mul (2 ^ k)))
top_or k x false h = omega (arith, or_zero_r x)

-- a set's digits are the test's answers
pub bit_set_below : (k : ℕ) (p : ℕ → Bool) (n : ℕ) → n < k → bit (set_below k p) n ≡ pick (p n) 1 0
unfolding set_below
bit_set_below zero p n h = absurd (not-suc-le-zero h)
bit_set_below (suc k) p n h =
    ap (λ (x : ℕ). bit x n) (top_or k (set_below k p) (p k) (set_below_lt k p)) ∙ bit_of_or (set_below k p) (pick (p k) (2 ^ k) 0) n
    ∙ go (eq-or-lt_of_le (le_of_suc-le-suc h)) (bit_set_below k p n)
  where
    Digit : ℕ → Type 0
    Digit m = max (bit (set_below k p) m) (bit (pick (p k) (2 ^ k) 0) m) ≡ pick (p m) 1 0

    go : (n ≡ k) ⊎ (n < k) → (n < k → bit (set_below k p) n ≡ pick (p n) 1 0) → Digit n
    go (inl e) ih = subst Digit (sym e) (omega (arith, own (p k) k, bit_out k (set_below k p) k (set_below_lt k p) (omega arith)))
    go (inr l) ih = omega (arith, ih l, other (p k) k n (λ e. omega arith))

-- the set of one number, where it is below k, has k digits
pub alone_lt : (k r : ℕ) → pick (ltb r k) (2 ^ r) 0 < 2 ^ k
alone_lt k r = go (ltb r k) refl
  where
    go : (b : Bool) → ltb r k ≡ b → pick b (2 ^ r) 0 < 2 ^ k
    go true e = pow-lt (ltb-true r k e)
    go false e = pow_pos k

-- its digits below k
pub bit_alone : (k r n : ℕ) → n < k → bit (pick (ltb r k) (2 ^ r) 0) n ≡ pick (eqb r n) 1 0
bit_alone k r n h = go (eqb r n) refl
  where
    go : (b : Bool) → eqb r n ≡ b → bit (pick (ltb r k) (2 ^ r) 0) n ≡ pick b 1 0
    go true e =
        subst (λ (m : ℕ). bit (pick (ltb r k) (2 ^ r) 0) m ≡ 1) (eqb-true r n e)
        (own (ltb r k) r ∙ ap (λ b. pick b 1 0) (lt-ltb r k (omega (arith, eqb-true r n e))))
    go false e = other (ltb r k) r n (λ q. eqb-false r n e (sym q))

-- the number with the test's answers as digits is the set
pub set_is : (x : ℕ) (p : ℕ → Bool) → x < 2 ^ regions → ((n : ℕ) → n < regions → bit x n ≡ pick (p n) 1 0) → x ≡ set_of p
set_is x p h f = bit_ext regions x (set_of p) h (set_below_lt regions p) (λ n l. f n l ∙ sym (bit_set_below regions p n l))

-- the members are the regions that pass the test
pub has_set : (p : ℕ → Bool) (n : ℕ) → has (set_of p) n ≡ (ltb n regions && p n)
has_set p n = go (ltb n regions) refl
  where
    is_one : (b : Bool) → eqb (pick b 1 0) 1 ≡ b
    is_one true = refl
    is_one false = refl

    go : (b : Bool) → ltb n regions ≡ b → (b && eqb (bit (set_of p) n) 1) ≡ (b && p n)
    go true e = ap (λ (d : ℕ). eqb d 1) (bit_set_below regions p n (ltb-true n regions e)) ∙ is_one (p n)
    go false e = refl

-- tests that agree on the regions give one set
pub set_ext : (p q : ℕ → Bool) → ((n : ℕ) → n < regions → p n ≡ q n) → set_of p ≡ set_of q
set_ext p q f = set_is (set_of p) q (set_below_lt regions p) (λ n h. bit_set_below regions p n h ∙ ap (λ b. pick b 1 0) (f n h))

-- the empty set
pub set_none : set_of (λ n. false) ≡ 0
set_none = sym (set_is 0 (λ n. false) (pow_pos regions) (λ n h. bit_zero n))

-- a region joins a set
pub set_join : (p : ℕ → Bool) (r : ℕ) → bit_or (set_of p) (singleton r) ≡ set_of (λ n. p n || eqb r n)
set_join p r =
    set_is (bit_or (set_of p) (singleton r)) (λ n. p n || eqb r n) (or_lt regions (set_of p) (singleton r) (set_below_lt regions p) (alone_lt regions r))
    (λ n h. bit_of_or (set_of p) (singleton r) n ∙ ap₂ max (bit_set_below regions p n h) (bit_alone regions r n h) ∙ either (p n) (eqb r n))
  where
    either : (a b : Bool) → max (pick a 1 0) (pick b 1 0) ≡ pick (a || b) 1 0
    either true true = refl
    either true false = refl
    either false true = refl
    either false false = refl

-- a region leaves a set
pub set_leave : (p : ℕ → Bool) (r : ℕ) → bit_and (set_of p) (2 ^ 64 - 1 - singleton r) ≡ set_of (λ n. p n && not (eqb r n))
set_leave p r =
    set_is (bit_and (set_of p) (2 ^ 64 - 1 - singleton r)) (λ n. p n && not (eqb r n))
    (lt_of_le_of_lt (and_le_l (set_of p) (2 ^ 64 - 1 - singleton r)) (set_below_lt regions p))
    (λ n h. bit_of_and (set_of p) (2 ^ 64 - 1 - singleton r) n ∙ ap₂ min (bit_set_below regions p n h) (turned n h) ∙ both (p n) (eqb r n))
  where
    room : regions ≤ 64
    room = lit≤ tt

    both : (a b : Bool) → min (pick a 1 0) (1 - pick b 1 0) ≡ pick (a && not b) 1 0
    both true true = refl
    both true false = refl
    both false true = refl
    both false false = refl

    turned : (n : ℕ) → n < regions → bit (2 ^ 64 - 1 - singleton r) n ≡ 1 - pick (eqb r n) 1 0
    turned n h =
        bit_not 64 (singleton r) n (lt_of_lt_of_le (alone_lt regions r) (pow_mono room)) (lt_of_lt_of_le h room)
        ∙ ap (λ (d : ℕ). 1 - d) (bit_alone regions r n h)
