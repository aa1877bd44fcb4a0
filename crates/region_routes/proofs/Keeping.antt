-- A loop that writes what passes a test to the start of a lent buffer.
use mathlib.Core.Path.{◌≡◌, refl, sym, ap, ◌∙◌}
use mathlib.Core.Bool.{Bool, true, false}
use mathlib.Core.List.{List, [], ◌∷◌, ◌++◌, map}
use Prim.Native.Nat.{ℕ, suc, ◌+◌, ◌≤◌, ◌<◌}
use native.Mathlib.Numerals.{add-one}
use native.Mathlib.Omega.{arith}
use lib.ListN.{length, get_or, take, drop, set, length-append, length-map, length-set}
use lib.Seq.{set_at, append_snoc, drop-cons, take_all}
use borrow.Author.Tests.{lt-ltb}
use Rattle.region_graph.specs.Size.{regions}
use Rattle.region_graph.specs.Lists.{keep}
use Rattle.region_graph.specs.Sets.{has, set_of}
use Rattle.region_graph.proofs.Lists.{map_append, keep_took, keep_left}
use Rattle.region_graph.proofs.Bits.{has_set}
use Rattle.region_graph.proofs.Storing.{map_id}
use Rattle.region_routes.specs.Hooks.{Outcome, Kept, kept, written, kept_outcome}

-- one more is written
written_more : (xs entry : List ℕ) (x : ℕ) → length xs < length entry → set (written xs entry) (length xs) x ≡ written (xs ++ (x ∷ [])) entry
written_more xs entry x h =
    rw (drop-cons entry (length xs) 0 h, length-append xs (x ∷ []), add-one (length xs))
    (set_at xs (get_or entry (length xs) 0) (drop (suc (length xs)) entry) x (length xs) refl
    ∙ sym (append_snoc xs x (drop (suc (length xs)) entry)))

-- of the first i elements a part of those that pass is written, by each test of a family
pub record KeepingPart {T A : Type 0} (p : T → A → Bool) (part : A → ℕ) (xs : List A) (i n : ℕ) (entry out : List ℕ) : Type 0 where
  pub upto : i ≤ length xs
  pub room : length xs ≤ length entry
  pub long : length out ≡ length entry
  pub few : n ≤ i
  pub counted : (t : T) → n ≡ length (keep (p t) (take i xs))
  pub exit_is : (t : T) → out ≡ written (map part (keep (p t) (take i xs))) entry

module _ {T A : Type 0} {p : T → A → Bool} {part : A → ℕ} {xs : List A} {entry : List ℕ} where
  pub part_start : length xs ≤ length entry → KeepingPart p part xs 0 0 entry entry
  part_start h = record { upto = omega arith; room = h; long = refl; few = omega arith; counted = λ t. refl; exit_is = λ t. refl }

  module _ {i n : ℕ} {out : List ℕ} (k : KeepingPart p part xs i n entry out) where
    pub part_passed : (d : A) {x : ℕ} → i < length xs → x ≡ part (get_or xs i d) → ((t : T) → p t (get_or xs i d) ≡ true)
        → KeepingPart p part xs (i + 1) (n + 1) entry (set out n x)
    part_passed d {x} l e h = record {
      upto = omega arith;
      room = k.room;
      long = length-set out n x ∙ k.long;
      few = omega (arith, k.few);
      counted = λ t.
          rw (keep_took (p t) xs i d l (h t), length-append (keep (p t) (take i xs)) (get_or xs i d ∷ [])) (ap (λ (j : ℕ). j + 1) (k.counted t));
      exit_is = λ t.
          let those = map part (keep (p t) (take i xs)) in
          let count : n ≡ length those = k.counted t ∙ sym (length-map (keep (p t) (take i xs)) part) in
          rw (keep_took (p t) xs i d l (h t), map_append, ← e, k.exit_is t, count)
          (written_more those entry x (omega (arith, count, k.few, k.room)));
    }

    pub part_failed : (d : A) → i < length xs → ((t : T) → p t (get_or xs i d) ≡ false) → KeepingPart p part xs (i + 1) n entry out
    part_failed d l h = record {
      upto = omega arith;
      room = k.room;
      long = k.long;
      few = omega (arith, k.few);
      counted = λ t. rw (keep_left (p t) xs i d l (h t)) (k.counted t);
      exit_is = λ t. rw (keep_left (p t) xs i d l (h t)) (k.exit_is t);
    }

    module _ (h : length xs ≤ i) (t : T) where
      pub part_count : n ≡ length (keep (p t) xs)
      part_count = k.counted t ∙ ap (λ (ys : List A). length (keep (p t) ys)) (take_all i xs h)

      pub part_exit : out ≡ written (map part (keep (p t) xs)) entry
      part_exit = k.exit_is t ∙ ap (λ (ys : List A). written (map part (keep (p t) ys)) entry) (take_all i xs h)

-- of a find or an event the elements are written as they are
abbrev pub Keeping : {T : Type 0} → (T → ℕ → Bool) → List ℕ → ℕ → ℕ → List ℕ → List ℕ → Type 0
Keeping p = KeepingPart p (λ x. x)

module _ {T : Type 0} {p : T → ℕ → Bool} {xs : List ℕ} {entry : List ℕ} where
  pub keeping_start : length xs ≤ length entry → Keeping p xs 0 0 entry entry
  keeping_start = part_start

  module _ {i n : ℕ} {out : List ℕ} (k : Keeping p xs i n entry out) where
    pub keeping_passed : i < length xs → ((t : T) → p t (get_or xs i 0) ≡ true) → Keeping p xs (i + 1) (n + 1) entry (set out n (get_or xs i 0))
    keeping_passed l = part_passed k 0 l refl

    pub keeping_failed : i < length xs → ((t : T) → p t (get_or xs i 0) ≡ false) → Keeping p xs (i + 1) n entry out
    keeping_failed = part_failed k 0

    pub keeping_end : length xs ≤ i → (t : T) → ◌≡◌ {A = Outcome Kept (List ℕ)} (kept (Kept.Wrote n) out) (kept_outcome (keep (p t) xs) entry)
    keeping_end h t =
        λ j. kept (Kept.Wrote (part_count k h t j)) ((part_exit k h t ∙ ap (λ (ys : List ℕ). written ys entry) (map_id (keep (p t) xs))) j)

-- whether a region is in the set of those that pass a test
pub has_by : (p : ℕ → Bool) (r : ℕ) {set : ℕ} {a b : Bool} → set ≡ set_of p → r < regions → a ≡ has set r → a ≡ b → p r ≡ b
has_by p r e l h t = sym (h ∙ ap (λ (x : ℕ). has x r) e ∙ has_set p r ∙ rw (lt-ltb r regions l)) ∙ t
