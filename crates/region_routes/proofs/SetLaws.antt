-- Members of the sets that the code computes by and, or and difference; members that two sets share; the count of members.
use mathlib.Core.Path.{◌≡◌, refl, sym, ap, ap₂, ◌∙◌, subst}
use mathlib.Core.Bool.{Bool, true, false, ◌&&◌}
use mathlib.Core.Logic.{◌⊎◌, inl, inr}
use mathlib.Core.List.{map}
use Prim.Native.Nat.{ℕ, zero, suc, ◌+◌, ◌-◌, ◌/◌, ◌%◌, ◌^◌, ◌≤◌, ◌<◌, zero-le, suc-le-suc, min, max}
use native.Mathlib.Nat.{add_comm, eq-zero-or-pos, lt_of_le_of_lt}
use native.Mathlib.Omega.{arith}
use lib.Arith.{bin_ind}
use lib.Bits.{bit_and, bit_or, and_le_l, and_shr, or_shr, or_lt}
use lib.Count.{count_trailing_zeros, ones, ones_step, ones-le}
use lib.Dec.{eqb, ltb}
use lib.ListN.{get_or, get_or-eq_default}
use lib.Pow.{pow_pos}
use borrow.Author.Tests.{eqb-true, eqb-false, eq-eqb, lt-ltb}
use Rattle.region_graph.specs.Size.{regions}
use Rattle.region_graph.specs.Lists.{count_from}
use Rattle.region_graph.specs.Sets.{bit, has, set_of}
use Rattle.region_graph.proofs.Bits.{bit_le, bit_of_and, bit_of_or, bit_zero, bit_other, bit_not, in_lt, low_in, set_below_lt}
use Rattle.region_graph.proofs.Views.{counted_at}
use Rattle.region_routes.specs.Search.{In, RegionSets}
use Rattle.region_routes.proofs.RouteLaws.{lt_or_ge}

-- the sets have a member in common
abbrev pub Meets : ℕ → ℕ → Type 0
Meets a b = (n : ℕ) × (In a n) × (In b n)

-- the empty set has no member
pub not_in_empty : (n : ℕ) → In 0 n → ⊥
not_in_empty n h = omega (arith, bit_zero n)

-- a number is in a set or is not
pub in_dec : (x n : ℕ) → In x n ⊎ (In x n → ⊥)
in_dec x n = go (bit x n) (bit_le x n)
  where
    go : (b : ℕ) → b ≤ 1 → (b ≡ 1) ⊎ (b ≡ 1 → ⊥)
    go zero h = inr (λ e. omega arith)
    go (suc b) h = inl (omega arith)

-- the members of the and and of the or of two sets
module _ (a b n : ℕ) where
  in_and : In (bit_and a b) n → In a n × In b n
  in_and h =
      let s : min (bit a n) (bit b n) ≡ 1 = sym (bit_of_and a b n) ∙ h in
      (omega (arith, bit_le a n, bit_le b n), omega (arith, bit_le a n, bit_le b n))

  pub or_in : In a n ⊎ In b n → In (bit_or a b) n
  or_in (inl h) = omega (arith, bit_of_or a b n, bit_le b n)
  or_in (inr h) = omega (arith, bit_of_or a b n, bit_le a n)

  pub in_or : In (bit_or a b) n → In a n ⊎ In b n
  in_or h = go (in_dec a n)
    where
      go : In a n ⊎ (In a n → ⊥) → In a n ⊎ In b n
      go (inl k) = inl k
      go (inr f) = inr (omega (arith, f, bit_of_or a b n, bit_le a n, bit_le b n))

-- the difference of two sets of w digits
module _ (w a b n : ℕ) (ha : a < 2 ^ w) (hb : b < 2 ^ w) where
  pub diff_in : In a n → (In b n → ⊥) → In (bit_and a (2 ^ w - 1 - b)) n
  diff_in h out = omega (arith, out, bit_of_and a (2 ^ w - 1 - b) n, bit_not w b n hb (in_lt w a n ha h), bit_le b n)

  pub in_diff : In (bit_and a (2 ^ w - 1 - b)) n → In a n × (In b n → ⊥)
  in_diff h =
      let i = in_and a (2 ^ w - 1 - b) n h in
      (i.0, λ k. omega (arith, k, i.1, bit_not w b n hb (in_lt w a n ha i.0)))

-- a power of two has one member
pub in_one : (r n : ℕ) → In (2 ^ r) n → n ≡ r
in_one r n h = go (eqb n r) refl
  where
    go : (b : Bool) → eqb n r ≡ b → n ≡ r
    go true e = eqb-true n r e
    go false e = absurd (omega (arith, bit_other r n (eqb-false n r e)))

-- the test of a region's membership
pub has_in : (x n : ℕ) → has x n ≡ true → In x n
has_in x n = go (ltb n regions)
  where
    go : (b : Bool) → (b && eqb (bit x n) 1) ≡ true → In x n
    go true e = eqb-true (bit x n) 1 e
    go false e = let z : ◌≡◌ {A = ℕ} 0 1 = cc in absurd (omega arith)

pub in_has : (x n : ℕ) → n < regions → In x n → has x n ≡ true
in_has x n l h = ap₂ ◌&&◌ (lt-ltb n regions l) (eq-eqb (bit x n) 1 h)

pub has_not : (x n : ℕ) → n < regions → has x n ≡ false → In x n → ⊥
has_not x n l e h =
    let t = in_has x n l h in
    let z : ◌≡◌ {A = ℕ} 0 1 = cc in omega arith

-- a set with a member is not empty
pub in_pos : (x n : ℕ) → In x n → 0 < x
in_pos zero n h = absurd (not_in_empty n h)
in_pos (suc x) n h = suc-le-suc zero-le

-- sets whose and is not 0 meet
meets_yes : (w a b : ℕ) → a < 2 ^ w → 0 < bit_and a b → Meets a b
meets_yes w a b h p =
    let n : ℕ = count_trailing_zeros w (bit_and a b) in
    let k = in_and a b n (low_in w (bit_and a b) p (lt_of_le_of_lt (and_le_l a b) h)) in (n, k.0, k.1)

-- for each region the regions that pass its test
pub counted_sets : (f : ℕ → ℕ → Bool) → RegionSets (map (λ s. set_of (f s)) (count_from 0 regions))
counted_sets f = record { long = refl; small = λ s. go s (lt_or_ge s regions) }
  where
    go : (s : ℕ) → (s < regions) ⊎ (regions ≤ s) → get_or (map (λ s. set_of (f s)) (count_from 0 regions)) s 0 < 2 ^ regions
    go s (inl l) = subst (λ (x : ℕ). x < 2 ^ regions) (sym (counted_at (λ s. set_of (f s)) 0 regions s s 0 l (omega arith))) (set_below_lt regions (f s))
    go s (inr l) = subst (λ (x : ℕ). x < 2 ^ regions) (sym (get_or-eq_default (map (λ s. set_of (f s)) (count_from 0 regions)) 0 l)) (pow_pos regions)

-- ---- the count of members

-- two sets have as many members as their or and their and
ones_or : (a b : ℕ) → ones (bit_or a b) + ones (bit_and a b) ≡ ones a + ones b
unfolding ones bit
ones_or a =
    bin_ind (λ (n : ℕ). (b : ℕ) → ones (bit_or n b) + ones (bit_and n b) ≡ ones n + ones b) (λ b. add_comm (ones b) 0)
    (λ n ih b. step n b (ih (b / 2))) a
  where
    step : (n b : ℕ) → ones (bit_or (n / 2) (b / 2)) + ones (bit_and (n / 2) (b / 2)) ≡ ones (n / 2) + ones (b / 2)
        → ones (bit_or n b) + ones (bit_and n b) ≡ ones n + ones b
    step n b ih =
        let o : bit_or n b % 2 ≡ max (n % 2) (b % 2) = bit_of_or n b 0 in
        let a : bit_and n b % 2 ≡ min (n % 2) (b % 2) = bit_of_and n b 0 in
        omega (
          arith,
          ones_step n,
          ones_step b,
          ones_step (bit_or n b),
          ones_step (bit_and n b),
          ap ones (or_shr n b 1),
          ap ones (and_shr n b 1),
        )

-- a set that is not empty has a member at least
pub ones_pos : (a : ℕ) → 0 < a → 1 ≤ ones a
unfolding ones
ones_pos = bin_ind (λ (n : ℕ). 0 < n → 1 ≤ ones n) (λ h. h) step
  where
    step : (n : ℕ) → (0 < n / 2 → 1 ≤ ones (n / 2)) → 0 < n → 1 ≤ ones n
    step n ih h = go (eq-zero-or-pos (n / 2))
      where
        go : (n / 2 ≡ 0) ⊎ (0 < n / 2) → 1 ≤ ones n
        go (inl e) = omega (arith, ones_step n)
        go (inr p) = omega (arith, ones_step n, ih p)

-- two sets of w digits with no member in common: their or has the members of both, and no more than w
pub grows : (w a b : ℕ) → a < 2 ^ w → b < 2 ^ w → (Meets a b → ⊥) → (ones (bit_or a b) ≡ ones a + ones b) × (ones (bit_or a b) ≤ w)
unfolding ones
grows w a b h k f = (omega (arith, ones_or a b, ap ones (go (eq-zero-or-pos (bit_and a b)))), ones-le w (bit_or a b) (or_lt w a b h k))
  where
    go : (bit_and a b ≡ 0) ⊎ (0 < bit_and a b) → bit_and a b ≡ 0
    go (inl e) = e
    go (inr p) = absurd (f (meets_yes w a b h p))
