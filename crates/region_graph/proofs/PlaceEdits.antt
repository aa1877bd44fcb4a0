-- Leaving elements out of the first places of an array, and putting one in, for any element.
use mathlib.Core.Path.{◌≡◌, refl, sym, ap, ◌∙◌}
use mathlib.Core.Bool.{Bool, cond, true, false, not}
use mathlib.Core.List.{List, [], ◌∷◌, ◌++◌, map, append_assoc}
use Prim.Native.Nat.{ℕ, suc, ◌+◌, ◌-◌, ◌≤◌, ◌<◌}
use native.Mathlib.Numerals.{add-one}
use native.Mathlib.Omega.{arith}
use lib.ListN.{length, get_or, take, drop, set, replicate, length-append, length-replicate, length-map, replicate-append-replicate}
use lib.Seq.{paste, drop-cons, take-suc, set_at, length-take-le}
use borrow.Author.Tests.{not-true, not-false}
use Rattle.std.specs.List.{filter}
use Rattle.std.specs.List.Sorted.{IsPartitionedBy, IsPartitionPoint}
use Rattle.std.proofs.Math.Seq.{drop-append-add}
use Rattle.std.proofs.lemmas.List.{get_or_default, get_or-take, get_or-drop, length-take, length-drop, take-map, drop-map, drop-take, take-append-le}
use Rattle.std.proofs.lemmas.List.Filters.{FiltersInPlace, FiltersInPlace-more_set, FiltersInPlace-more_no}
use Rattle.region_graph.specs.Lists.{All, pick, keep, insert_by, ascends}
use Rattle.region_graph.specs.Places.{Retained, Inserted}
use Rattle.region_graph.proofs.Lists.{map_append, keep_length, all_at, all_of, insert_here, insert_length}
use Rattle.region_graph.proofs.Ascending.{Strict, Rising, ascends_rising, none_after}
use Rattle.region_graph.proofs.Arrays.{getD_map_in, replicate_cons, drop_replicate, Filled, filled_taken}

-- a turn of the loop that keeps what passes: b is the test's answer at place i
module _ {T : Type 0} {p : T → Bool} {xs ys : List T} {k i : ℕ} {b : Bool} (x : T) (f : FiltersInPlace p xs ys k i) (l : i < length ys)
    (e : b ≡ p (get_or ys i x)) where
  pub retain_kept : {y : T} → y ≡ get_or ys i y → b ≡ true → FiltersInPlace p xs (set ys k y) (k + 1) (i + 1)
  retain_kept {y} h t = FiltersInPlace-more_set f l (ap p (h ∙ get_or_default ys i y x l) ∙ sym e ∙ t) h

  pub retain_left : b ≡ false → FiltersInPlace p xs ys k (i + 1)
  retain_left t = FiltersInPlace-more_no {x = get_or ys i x} f l (sym e ∙ t) (get_or_default ys i x (get_or ys i x) l)

-- a turn of the loop that clears the places from k on
pub clearing_more : {T : Type 0} (d : List T) {ys : List T} {k i : ℕ} (y : T) → ys ≡ take k d ++ (replicate (i - k) y ++ drop i d) → k ≤ i → i < length d
    → set ys i y ≡ take k d ++ (replicate (i + 1 - k) y ++ drop (i + 1) d)
clearing_more {T} d {ys} {k} {i} y e h l =
    let n : i + 1 - k ≡ suc (i - k) = omega arith in
    let m : length (take k d ++ replicate (i - k) y) ≡ i = rw (length-append, length-replicate, length-take-le k d (omega arith)) (omega arith) in
    rw (n, add-one i, e, drop-cons d i y l, ← append_assoc)
    (set_at (take k d ++ replicate (i - k) y) (get_or d i y) (drop (suc i) d) y i m
    ∙ append_assoc (take k d) (replicate (i - k) y) (y ∷ drop (suc i) d)
    ∙ ap (λ (t : List T). take k d ++ t) (replicate_cons (i - k) y (drop (suc i) d)))

-- the elements from a place on move up by one, and the place takes a new one
pub placing : {T : Type 0} (xs : List T) (at count : ℕ) (y : T) → at ≤ count → count < length xs
    → set (paste xs (at + 1) (drop at xs) (count - at)) at y ≡ take at xs ++ (y ∷ (drop at (take count xs) ++ drop (count + 1) xs))
placing {T} xs at count y h l =
    let n : at + 1 + (count - at) ≡ count + 1 = omega arith in
    let m : at + (count - at) ≡ count = omega arith in
    let k : length (take at xs) ≡ at = length-take-le at xs (omega arith) in
    let r : drop at (take count xs) ≡ take (count - at) (drop at xs) = rw m at (drop-take at (count - at) xs) in
    rw (n, r, add-one at, take-suc xs at y (omega arith), append_assoc, append_assoc)
    (set_at (take at xs) (get_or xs at y) _ y at k)

-- the same of an array that holds stored elements

filter_stored : {A B : Type 0} (store : A → B) (q : B → Bool) (p : A → Bool) → ((x : A) → q (store x) ≡ p x) → (xs : List A)
    → filter q (map store xs) ≡ map store (keep p xs)
filter_stored store q p agree [] = refl
filter_stored {A} {B} store q p agree (x ∷ xs) = rw (agree x) (go (p x) (filter_stored store q p agree xs))
  where
    go : (b : Bool) → filter q (map store xs) ≡ map store (keep p xs)
        → cond b (store x ∷ filter q (map store xs)) (filter q (map store xs)) ≡ map store (pick b (x ∷ keep p xs) (keep p xs))
    go true e = ap (λ (t : List B). store x ∷ t) e
    go false e = e

module _ {A B : Type 0} {store : A → B} {none : B} {size : ℕ} {items : List B} {count : ℕ} {xs : List A} (h : Filled store none size items count xs)
    (q : B → Bool) where
  -- past the count nothing is stored
  beyond : (n : ℕ) → count ≤ n → n ≤ size → drop n items ≡ replicate (size - n) none
  beyond n l m =
      let s : length (map store xs) + (n - length xs) ≡ n = rw length-map (omega (arith, h.counted)) in
      let t : size - length xs - (n - length xs) ≡ size - n = omega (arith, h.counted) in
      rw h.shape
      (ap (λ (k : ℕ). drop k (map store xs ++ replicate (size - length xs) none)) (sym s)
      ∙ drop-append-add (map store xs) (replicate (size - length xs) none) (n - length xs)
      ∙ drop_replicate none (size - length xs) (n - length xs) (omega arith) ∙ ap (λ (k : ℕ). replicate k none) t)

  -- those that pass stay
  pub retained : {new : List B} {kept : ℕ} (p : A → Bool) → ((x : A) → q (store x) ≡ p x) → Retained q items count none kept new → Filled store none size new kept (keep p xs)
  retained {new} {kept} p agree r =
      let e : filter q (take count items) ≡ map store (keep p xs) = rw (filled_taken h) (filter_stored store q p agree xs) in
      let k : kept ≡ length (keep p xs) = r.0 ∙ rw e (length-map (keep p xs) store) in
      let few : length (keep p xs) ≤ length xs = keep_length p xs in
      let n : count - kept + (size - count) ≡ size - length (keep p xs) = omega (arith, h.counted, h.room, k, few) in
      record {
        shape = r.1 ∙ rw (e, beyond count (omega arith) (omega (arith, h.counted, h.room)), replicate-append-replicate (count - kept) (size - count) none, n);
        counted = k;
        room = omega (arith, h.room, few);
      }

  module _ (before : A → A → Bool) (x : A) (agree : (y : A) → q (store y) ≡ not (before x y)) where
    test_at : (i : ℕ) (d : B) → i < length xs → q (get_or (map store xs) i d) ≡ not (before x (get_or xs i x))
    test_at i d l = ap q (getD_map_in store xs i d x l) ∙ agree (get_or xs i x)

    -- in an ascending list those that the new one does not come before stand first
    parted : Strict before → Rising before xs → IsPartitionedBy q (take count items)
    parted strict rising i j d l m e =
        let f = filled_taken h in
        let n : j < length xs = rw (f, length-map) at m in
        let b : before x (get_or xs j x) ≡ false = not-true _ (sym (test_at j d n) ∙ rw f at e) in
        let k = none_after before strict x xs j x n rising b in
        let a : before x (get_or xs i x) ≡ false
        = rw (get_or-take (suc j) xs i x (omega arith)) at (all_at (λ y. before x y ≡ false) (take (suc j) xs) i x (rw length-take (omega arith)) k) in
        rw f (test_at i d (omega arith) ∙ ap not a)

    -- the new one stands where it comes before all that follow
    inserted_at : {new : List B} (at : ℕ) → at ≤ count → count < size
        → IsPartitionPoint (λ y. q y ≡ true) (λ y. q y ≡ false) (take count items) at
        → new ≡ take at items ++ (store x ∷ (drop at (take count items) ++ drop (count + 1) items))
        → Filled store none size new (count + 1) (insert_by before x xs)
    inserted_at {new} at within l point shape =
        let f = filled_taken h in
        let n : at ≤ length xs = omega (arith, h.counted, within) in
        let low : All (λ y. before x y ≡ false) (take at xs)
        = all_of (λ y. before x y ≡ false) x (take at xs) (λ i m.
        let k : i < at = omega (arith, rw length-take at m) in
        rw (get_or-take at xs i x k) (not-true _ (sym (test_at i (store x) (omega arith)) ∙ rw f at (point.0 i (store x) (omega arith) k)))) in
        let high : All (λ y. before x y ≡ true) (drop at xs)
        = all_of (λ y. before x y ≡ true) x (drop at xs) (λ i m.
        let k : at + i < length xs = omega (arith, rw length-drop at m) in
        rw (get_or-drop at xs i x)
        (not-false _ (sym (test_at (at + i) (store x) k) ∙ rw f at (point.1 (at + i) (store x) (omega arith) (rw (f, length-map) k))))) in
        let e : take at items ≡ map store (take at xs)
        = rw h.shape (take-append-le at (map store xs) (replicate (size - length xs) none) (rw length-map n) ∙ take-map store at xs) in
        let k : size - (count + 1) ≡ size - suc (length xs) = omega (arith, h.counted) in
        record {
          shape =
              rw (
                shape,
                insert_length before x xs,
                insert_here before x xs at low high,
                map_append store (take at xs) (x ∷ drop at xs),
                append_assoc,
                e,
                f,
                drop-map store at xs,
                beyond (count + 1) (omega arith) (omega arith),
                k,
              );
          counted = rw insert_length (omega (arith, h.counted));
          room = rw insert_length (omega (arith, h.counted));
        }

    pub inserted : {new : List B} → Strict before → ascends before xs ≡ true → count < size → Inserted q items count (store x) new
        → Filled store none size new (count + 1) (insert_by before x xs)
    inserted strict rise l r = let t = r (parted strict (ascends_rising before strict xs rise)) in inserted_at t.0 t.1 l t.2 t.3
