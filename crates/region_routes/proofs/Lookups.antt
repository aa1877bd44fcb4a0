-- What the places of a number look up: the regions that its entries name, and the place of the first entry that passes a test.
use Rattle.std.specs.Prelude.{Option, Some, None}
use mathlib.Core.Path.{◌≡◌, refl, sym, ap, ap₂, ◌∙◌}
use mathlib.Core.Bool.{Bool, true, false, ◌&&◌, and-true}
use mathlib.Core.List.{List, [], ◌∷◌}
use Prim.Native.Nat.{ℕ, zero, suc, ◌+◌, ◌<◌}
use native.Mathlib.Numerals.{add-one}
use native.Mathlib.Omega.{arith}
use lib.Bits.{bit_or}
use lib.Dec.{eqb}
use lib.ListN.{length, get_or, take, drop}
use lib.Seq.{drop-cons, drop-length, take-length}
use borrow.Author.Tests.{eqb-true, eqb-false}
use Rattle.std.specs.List.{fold}
use Rattle.region_graph.specs.Lists.{pick}
use Rattle.region_graph.specs.Sets.{singleton}
use Rattle.region_graph.proofs.Views.{held, held_none, held_took, held_left}
use Rattle.region_routes.specs.Tables.{number_in, place_in, held_in, place_at, place_beside}
use Rattle.region_routes.specs.Chains.{places_left}
use Rattle.region_routes.proofs.Chaining.{left_none, left_own, left_other, walked}

-- a set with the region of the entry at a place
abbrev pub with_holder : List ℕ → ℕ → ℕ → ℕ
with_holder es set i = bit_or set (singleton (place_in (get_or es i 0)))

pub held_walked : (es : List ℕ) (n : ℕ) → fold (with_holder es) 0 (places_left es n 0) ≡ held_in es n
unfolding held
held_walked es n =
    let test : ℕ → Bool = λ e. eqb (number_in e) n in
    walked (λ set i. set ≡ held place_in test (take i es)) (with_holder es) es n
    (λ x i h q p. p ∙ held_left place_in test es i 0 h q)
    (λ x i h q p. ap (λ (s : ℕ). bit_or s (singleton (place_in (get_or es i 0)))) p ∙ held_took place_in test es i 0 h q) 0
    (held_none place_in test)
    ∙ ap (held place_in test) (take-length es)

-- among the entries at the places of a list, the place of the first one that passes a test of its place
abbrev pub first_place : List ℕ → (ℕ → Bool) → List ℕ → Option ℕ
first_place es test [] = None
first_place es test (i ∷ is) = pick (test i) (Some (place_in (get_or es i 0))) (first_place es test is)

-- `from i` is the place of the first one from place i on that has the number and passes the test
module _ (es : List ℕ) (n : ℕ) (test : ℕ → Bool) (from : ℕ → Option ℕ) (last : from (length es) ≡ None)
    (each : (i : ℕ) → i < length es → from i ≡ pick (eqb (number_in (get_or es i 0)) n && test i) (Some (place_in (get_or es i 0))) (from (i + 1))) where
  first_from : (k i : ℕ) → i + k ≡ length es → first_place es test (places_left es n i) ≡ from i
  first_from zero i e =
      let s : i ≡ length es = omega arith in
      rw (left_none es n i (omega arith)) (sym (ap from s ∙ last))
  first_from (suc k) i e = go (eqb (number_in (get_or es i 0)) n) refl (first_from k (i + 1) (omega arith))
    where
      h : i < length es
      h = omega arith

      go : (t : Bool) → eqb (number_in (get_or es i 0)) n ≡ t → first_place es test (places_left es n (i + 1)) ≡ from (i + 1)
          → first_place es test (places_left es n i) ≡ from i
      go true q r =
          rw (left_own es n i h (eqb-true (number_in (get_or es i 0)) n q))
          (ap (pick (test i) (Some (place_in (get_or es i 0)))) r ∙ sym (each i h ∙ rw q))
      go false q r = rw (left_other es n i h (eqb-false (number_in (get_or es i 0)) n q)) (r ∙ sym (each i h ∙ rw q))

pub place_walked : (es : List ℕ) (n : ℕ) → first_place es (λ i. true) (places_left es n 0) ≡ place_at es n
place_walked es n =
    first_from es n (λ i. true) (λ i. place_at (drop i es) n) (ap (λ (t : List ℕ). place_at t n) (drop-length es))
    (λ i h. rw (add-one, and-true) (ap (λ (t : List ℕ). place_at t n) (drop-cons es i 0 h))) (length es) 0 (omega arith)

pub beside_walked : (es ls : List ℕ) (l n : ℕ) → length ls ≡ length es
    → first_place es (λ i. eqb (get_or ls i 0) l) (places_left es n 0) ≡ place_beside es ls l n
beside_walked es ls l n e =
    first_from es n (λ i. eqb (get_or ls i 0) l) (λ i. place_beside (drop i es) (drop i ls) l n)
    (ap (λ (t : List ℕ). place_beside t (drop (length es) ls) l n) (drop-length es))
    (λ i h. rw add-one (ap₂ (λ (t u : List ℕ). place_beside t u l n) (drop-cons es i 0 h) (drop-cons ls i 0 (omega arith)))) (length es) 0
    (omega arith)
