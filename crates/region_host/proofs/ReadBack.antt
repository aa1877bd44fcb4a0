-- No two answers of a query are one number for C: what C reads back in the number is the answer.
use mathlib.Core.Path.{◌≡◌, refl, sym, ap, ◌∙◌}
use native.Mathlib.Omega.{arith}
use Prim.Native.Nat.{ℕ, zero, suc, ◌-◌, ◌^◌, ◌<◌, ◌≤◌}
use borrow.Author.Tests.{lt-ltb, le-ltb, ne_eqb}
use Rattle.region_graph.proofs.Lists.{pick_no}
use Rattle.region_routes.specs.Hooks.{Routed, Kept}
use Rattle.region_archive.specs.Promise.{Written, hidden_number}
use Rattle.region_host.specs.CNumbers.{negative, routed_value, kept_value, written_value, read_back, unseen, routed_of, kept_of, written_of, CountFits}

-- the questions have numbers below that of "hidden"
abbrev pub PaperNumber : ℕ → Type 0
PaperNumber n = (0 < n) × (n ≤ 100)

abbrev pub RoutedGiven : Routed → Type 0
RoutedGiven Routed.Hidden = Unit {0}
RoutedGiven (Routed.Count n) = CountFits n
RoutedGiven (Routed.Refused n) = PaperNumber n

abbrev pub KeptGiven : Kept → Type 0
KeptGiven (Kept.Wrote n) = CountFits n
KeptGiven (Kept.Refused n) = PaperNumber n

abbrev pub WrittenGiven : Written → Type 0
WrittenGiven (Written.Bytes n) = CountFits n
WrittenGiven (Written.Refused n) = PaperNumber n

-- a number of the papers stands above every count, and is had back
negative_is : (n : ℕ) → 0 < n → negative n ≡ 2 ^ 64 - n
negative_is zero h = omega (arith, h)
negative_is (suc n) h = refl

module _ {A : Type 0} (count numbered : ℕ → A) where
  pub count_back : (n : ℕ) → CountFits n → read_back count numbered n ≡ count n
  count_back n h = rw (lt-ltb n (2 ^ 63) h) refl

  pub number_back : (n : ℕ) → 0 < n → n ≤ 101 → read_back count numbered (negative n) ≡ numbered n
  number_back n h k =
      rw (le-ltb (negative n) (2 ^ 63) (omega (arith, negative_is n h, k))) (ap numbered (omega (arith, negative_is n h, k)))

pub routed_back : (a : Routed) → RoutedGiven a → routed_of (routed_value a) ≡ a
routed_back Routed.Hidden g = refl
routed_back (Routed.Count n) g = count_back Routed.Count unseen n g
routed_back (Routed.Refused n) g =
    number_back Routed.Count unseen n g.0 (omega (arith, g.1))
    ∙ pick_no Routed.Hidden (Routed.Refused n) (ne_eqb n hidden_number (λ e. omega (arith, e, g.1)))

pub kept_back : (a : Kept) → KeptGiven a → kept_of (kept_value a) ≡ a
kept_back (Kept.Wrote n) g = count_back Kept.Wrote Kept.Refused n g
kept_back (Kept.Refused n) g = number_back Kept.Wrote Kept.Refused n g.0 (omega (arith, g.1))

pub written_back : (a : Written) → WrittenGiven a → written_of (written_value a) ≡ a
written_back (Written.Bytes n) g = count_back Written.Bytes Written.Refused n g
written_back (Written.Refused n) g = number_back Written.Bytes Written.Refused n g.0 (omega (arith, g.1))

-- so two answers with one number are one
pub distinct : {A : Type 0} {Given : A → Type 0} {value : A → ℕ} (of : ℕ → A) → ((a : A) → Given a → of (value a) ≡ a) → (a b : A) → Given a → Given b
    → value a ≡ value b → a ≡ b
distinct of back a b g h e = sym (back a g) ∙ ap of e ∙ back b h

pub routed_distinct : (a b : Routed) → RoutedGiven a → RoutedGiven b → routed_value a ≡ routed_value b → a ≡ b
routed_distinct = distinct routed_of routed_back

pub kept_distinct : (a b : Kept) → KeptGiven a → KeptGiven b → kept_value a ≡ kept_value b → a ≡ b
kept_distinct = distinct kept_of kept_back

pub written_distinct : (a b : Written) → WrittenGiven a → WrittenGiven b → written_value a ≡ written_value b → a ≡ b
written_distinct = distinct written_of written_back
