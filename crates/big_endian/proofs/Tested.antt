-- Facts that are told by a test.
use mathlib.Core.Path.{◌≡◌, refl, ap}
use mathlib.Core.Bool.{Bool, true, false, not, ◌&&◌}
use mathlib.Core.List.{List, [], ◌∷◌}
use Prim.Native.Nat.{ℕ, ◌≤◌, ◌<◌}
use lib.Dec.{ltb, leb}
use lib.ListN.{length}
use borrow.Author.Tests.{lt-ltb, ltb-true, le-leb, leb-true, not-true}
use Rattle.region_graph.specs.Lists.{All, ascends}
use Rattle.region_graph.specs.Model.{Sorted}
use Rattle.region_graph.proofs.Lists.{and_yes, and_fst, and_snd}

-- a test that tells whether P holds
pub record Tested (P : Type 0) : Type 0 where
  pub test : Bool
  pub holds : test ≡ true → P
  pub tests : P → test ≡ true

-- a test for what always holds, for a test's own answer, and for a bound
unfoldable pub tested_none : Tested (Unit {0})
tested_none = record { test = true; holds = λ e. tt; tests = λ h. refl }

unfoldable pub tested_true : (b : Bool) → Tested (b ≡ true)
tested_true b = record { test = b; holds = λ e. e; tests = λ h. h }

unfoldable pub tested_false : (b : Bool) → Tested (b ≡ false)
tested_false b = record { test = not b; holds = not-true b; tests = λ h. ap not h }

unfoldable pub tested_le : (a b : ℕ) → Tested (a ≤ b)
tested_le a b = record { test = leb a b; holds = leb-true a b; tests = le-leb a b }

unfoldable pub tested_lt : (a b : ℕ) → Tested (a < b)
tested_lt a b = record { test = ltb a b; holds = ltb-true a b; tests = lt-ltb a b }

module _ {P Q : Type 0} where
  -- for two facts together
  unfoldable pub tested_both : Tested P → Tested Q → Tested (P × Q)
  tested_both p q =
      record {
        test = p.test && q.test;
        holds = λ e. (p.holds (and_fst p.test q.test e), q.holds (and_snd p.test q.test e));
        tests = λ h. and_yes (p.tests h.0) (q.tests h.1);
      }

  -- for what comes to the same
  unfoldable pub tested_as : (P → Q) → (Q → P) → Tested P → Tested Q
  tested_as to from p = record { test = p.test; holds = λ e. to (p.holds e); tests = λ h. p.tests (from h) }

-- for a fact of each element
unfoldable pub tested_all : {A : Type 0} (P : A → Type 0) → ((x : A) → Tested (P x)) → (xs : List A) → Tested (All P xs)
tested_all P f [] = tested_none
tested_all P f (x ∷ xs) = tested_both (f x) (tested_all P f xs)

-- for a set of at most so many elements, each good, in strictly ascending order
unfoldable pub tested_sorted : {A : Type 0} (before : A → A → Bool) (Good : A → Type 0) → ((x : A) → Tested (Good x)) → (most : ℕ) (xs : List A)
    → Tested (Sorted before Good most xs)
tested_sorted before Good f most xs =
    tested_as (λ t. record { few = t.0; each = t.1.0; ascend = t.1.1 }) (λ h. (h.few, (h.each, h.ascend)))
    (tested_both (tested_le (length xs) most) (tested_both (tested_all Good f xs) (tested_true (ascends before xs))))
