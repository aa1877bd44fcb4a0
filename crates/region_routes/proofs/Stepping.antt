-- The sets of predecessors that a walk along a chain makes: those given, and the sources of the entries that pass a test.
use mathlib.Core.Path.{◌≡◌, refl, sym, ap, ◌∙◌}
use mathlib.Core.Bool.{Bool, true, false, ◌&&◌, ◌||◌, and-true, and-false, or-false, or_assoc}
use mathlib.Core.List.{List, [], ◌∷◌}
use Prim.Native.Nat.{ℕ, zero, suc, ◌+◌, ◌<◌}
use native.Mathlib.Numerals.{add-one}
use native.Mathlib.Omega.{arith}
use lib.Dec.{eqb}
use lib.ListN.{length, get_or, take}
use lib.Seq.{take_all, take-length}
use borrow.Author.Tests.{eq-eqb, ne_eqb}
use Rattle.std.specs.List.{fold}
use Rattle.region_graph.specs.Lists.{pick}
use Rattle.region_graph.proofs.Views.{exists_more, sets_more}
use Rattle.region_routes.specs.Tables.{number_in, source_in, target_in, span_has, step_in, step_or, step_between, step_or_between, predecessors_by}
use Rattle.region_routes.specs.Chains.{places_left, with_step}
use Rattle.region_routes.proofs.Chaining.{walked}

-- `upto step i`: a given step, or one by the entries before place i; an entry gives one where it has the number and passes the test of its place
pub record Stepping (es : List ℕ) (n : ℕ) (upto : (ℕ → ℕ → Bool) → ℕ → ℕ → ℕ → Bool) (test : ℕ → Bool) : Type 0 where
  pub none : (step : ℕ → ℕ → Bool) (r s : ℕ) → upto step 0 r s ≡ step r s
  pub more : (step : ℕ → ℕ → Bool) (i r s : ℕ) → i < length es
      → upto step (i + 1) r s
      ≡ (upto step i r s || ((eqb (source_in (get_or es i 0)) r && eqb (target_in (get_or es i 0)) s) && (eqb (number_in (get_or es i 0)) n && test i)))

-- sets with the step of the entry at a place, where that passes the test
abbrev pub stepped : List ℕ → (ℕ → Bool) → List ℕ → ℕ → List ℕ
stepped es test sets i = pick (test i) (with_step sets (get_or es i 0)) sets

module _ {es : List ℕ} {n : ℕ} {upto : (ℕ → ℕ → Bool) → ℕ → ℕ → ℕ → Bool} {test : ℕ → Bool} (g : Stepping es n upto test) (step : ℕ → ℕ → Bool) where
  abbrev Given : List ℕ → ℕ → Type 0
  Given sets i = sets ≡ predecessors_by (upto step i)

  step_same : (i : ℕ) → i < length es → (r s : ℕ)
      → ((eqb (source_in (get_or es i 0)) r && eqb (target_in (get_or es i 0)) s) && (eqb (number_in (get_or es i 0)) n && test i)) ≡ false
      → upto step (i + 1) r s ≡ upto step i r s
  step_same i h r s e = g.more step i r s h ∙ ap (λ (t : Bool). upto step i r s || t) e ∙ or-false (upto step i r s)

  -- an entry of another number, or one that fails the test, leaves the sets as they are
  given_same : (sets : List ℕ) (i : ℕ) → i < length es → (eqb (number_in (get_or es i 0)) n && test i) ≡ false → Given sets i → Given sets (i + 1)
  given_same sets i h q p =
      p
      ∙ ap predecessors_by
      (λ j r s. sym (step_same i h r s (rw q (and-false (eqb (source_in (get_or es i 0)) r && eqb (target_in (get_or es i 0)) s)))) j)

  -- one that passes adds its source to the predecessors of its target
  given_more : (sets : List ℕ) (i : ℕ) → i < length es → (eqb (number_in (get_or es i 0)) n && test i) ≡ true → Given sets i
      → Given (with_step sets (get_or es i 0)) (i + 1)
  unfolding predecessors_by
  given_more sets i h q p =
      let e = get_or es i 0 in
      sets_more (upto step i) (upto step (i + 1)) (source_in e) p refl (omega arith)
      (λ r.
      g.more step i r (target_in e) h
      ∙ ap (λ (b : Bool). upto step i r (target_in e) || b)
      (rw (q, eq-eqb (target_in e) (target_in e) refl) (and-true (eqb (source_in e) r && true) ∙ and-true (eqb (source_in e) r))))
      (λ r s l. step_same i h r s (rw (ne_eqb (target_in e) s (λ j. l (sym j)), and-false (eqb (source_in e) r))))

  given_next : (sets : List ℕ) (i : ℕ) → i < length es → eqb (number_in (get_or es i 0)) n ≡ true → Given sets i → Given (stepped es test sets i) (i + 1)
  given_next sets i h q p = go (test i) refl
    where
      go : (t : Bool) → test i ≡ t → Given (pick t (with_step sets (get_or es i 0)) sets) (i + 1)
      go true k = given_more sets i h (rw (q, k)) p
      go false k = given_same sets i h (rw (q, k)) p

  pub steps_walked : (given : List ℕ) → given ≡ predecessors_by step
      → fold (stepped es test) given (places_left es n 0) ≡ predecessors_by (upto step (length es))
  steps_walked given e =
      walked Given (stepped es test) es n (λ x i h q p. given_same x i h (rw q) p) given_next given
      (e ∙ ap predecessors_by (λ j r s. sym (g.none step r s) j))

-- one turn of a loop that adds the steps
module _ (es : List ℕ) (test : ℕ → Bool) (sets : List ℕ) (i : ℕ) (rest : List ℕ) where
  pub stepped_passed : {next : List ℕ} → test i ≡ true → next ≡ with_step sets (get_or es i 0)
      → fold (stepped es test) sets (i ∷ rest) ≡ fold (stepped es test) next rest
  stepped_passed q e = rw (q, e) refl

  pub stepped_failed : test i ≡ false → fold (stepped es test) sets (i ∷ rest) ≡ fold (stepped es test) sets rest
  stepped_failed q = rw q refl

-- the entries that have the number
abbrev pub number_steps : List ℕ → ℕ → (ℕ → ℕ → Bool) → ℕ → ℕ → ℕ → Bool
number_steps es n step i = step_or step (take i es) n

pub stepping_number : {es : List ℕ} {n : ℕ} → Stepping es n (number_steps es n) (λ i. true)
stepping_number {es} {n} = record {
  none = λ step r s. or-false (step r s);
  more = λ step i r s h.
      rw and-true
      (ap (λ (t : Bool). step r s || t) (exists_more (λ e. (eqb (source_in e) r && eqb (target_in e) s) && eqb (number_in e) n) es i 0 h)
      ∙ sym (or_assoc (step r s) (step_in (take i es) n r s)
      ((eqb (source_in (get_or es i 0)) r && eqb (target_in (get_or es i 0)) s) && eqb (number_in (get_or es i 0)) n)));
}

-- those that have the number, and a span beside them that has the version
abbrev pub span_steps : List ℕ → List ℕ → ℕ → ℕ → (ℕ → ℕ → Bool) → ℕ → ℕ → ℕ → Bool
span_steps es ss n v step i = step_or_between step (take i es) (take i ss) n v

module _ (n v r s : ℕ) where
  -- one entry more
  between_more : (es ss : List ℕ) (i : ℕ) → i < length es → i < length ss
      → step_between (take (suc i) es) (take (suc i) ss) n v r s
      ≡ (step_between (take i es) (take i ss) n v r s
      || ((eqb (source_in (get_or es i 0)) r && eqb (target_in (get_or es i 0)) s) && (eqb (number_in (get_or es i 0)) n && span_has v (get_or ss i 0))))
  between_more [] ss i h k = absurd (omega arith)
  between_more (e ∷ es) [] i h k = absurd (omega arith)
  between_more (e ∷ es) (x ∷ ss) zero h k =
      or-false ((eqb (source_in e) r && eqb (target_in e) s) && (eqb (number_in e) n && span_has v x))
  between_more (e ∷ es) (x ∷ ss) (suc i) h k =
      let first = (eqb (source_in e) r && eqb (target_in e) s) && (eqb (number_in e) n && span_has v x) in
      ap (λ (t : Bool). first || t) (between_more es ss i (omega arith) (omega arith))
      ∙ sym (or_assoc first (step_between (take i es) (take i ss) n v r s)
      ((eqb (source_in (get_or es i 0)) r && eqb (target_in (get_or es i 0)) s) && (eqb (number_in (get_or es i 0)) n && span_has v (get_or ss i 0))))

pub stepping_span : {es ss : List ℕ} {n v : ℕ} → length ss ≡ length es
    → Stepping es n (span_steps es ss n v) (λ i. span_has v (get_or ss i 0))
stepping_span {es} {ss} {n} {v} e = record {
  none = λ step r s. or-false (step r s);
  more = λ step i r s h.
      rw add-one
      (ap (λ (t : Bool). step r s || t) (between_more n v r s es ss i h (omega arith))
      ∙ sym (or_assoc (step r s) (step_between (take i es) (take i ss) n v r s)
      ((eqb (source_in (get_or es i 0)) r && eqb (target_in (get_or es i 0)) s) && (eqb (number_in (get_or es i 0)) n && span_has v (get_or ss i 0)))));
}

-- what the sets come to
pub number_walked : (es : List ℕ) (n : ℕ) (given : List ℕ) (step : ℕ → ℕ → Bool) → given ≡ predecessors_by step
    → fold (stepped es (λ i. true)) given (places_left es n 0) ≡ predecessors_by (step_or step es n)
number_walked es n given step e =
    steps_walked (stepping_number {es = es} {n = n}) step given e ∙ ap (λ (t : List ℕ). predecessors_by (step_or step t n)) (take-length es)

pub span_walked : (es ss : List ℕ) (n v : ℕ) (given : List ℕ) → length ss ≡ length es → (step : ℕ → ℕ → Bool) → given ≡ predecessors_by step
    → fold (stepped es (λ i. span_has v (get_or ss i 0))) given (places_left es n 0) ≡ predecessors_by (step_or_between step es ss n v)
span_walked es ss n v given e step f =
    steps_walked (stepping_span {es = es} {ss = ss} {n = n} {v = v} e) step given f
    ∙ (λ j. predecessors_by (step_or_between step (take-length es j) (take_all (length es) ss (omega arith) j) n v))
