-- Arrays whose first places hold a list: filling one, and reading, for any element, store and size.
use mathlib.Core.Path.{◌≡◌, refl, sym, ap, ◌∙◌}
use mathlib.Core.List.{List, [], ◌∷◌, ◌++◌, map}
use Prim.Native.Nat.{ℕ, zero, suc, ◌+◌, ◌-◌, ◌≤◌, ◌<◌}
use native.Mathlib.Numerals.{add-one}
use native.Mathlib.Nat.{sub-zero}
use native.Mathlib.Omega.{arith}
use lib.ListN.{length, get_or, take, drop, set, replicate, length-append, length-replicate, length-map, length-set, get_or-append}
use lib.Seq.{take-suc, drop-cons, set_at, append_snoc, take-length, length-take-le, take_at}
use Rattle.region_graph.specs.Lists.{All}
use Rattle.region_graph.specs.Record.{places}
use Rattle.region_graph.proofs.Lists.{all_at, map_append}

module _ {A B : Type 0} (f : A → B) where
  pub map_take : (n : ℕ) (xs : List A) → map f (take n xs) ≡ take n (map f xs)
  map_take zero xs = refl
  map_take (suc n) [] = refl
  map_take (suc n) (x ∷ xs) = ap (λ (l : List B). f x ∷ l) (map_take n xs)

  pub getD_map_in : (xs : List A) (i : ℕ) (e : B) (d : A) → i < length xs → get_or (map f xs) i e ≡ f (get_or xs i d)
  getD_map_in [] i e d h = absurd (omega arith)
  getD_map_in (x ∷ xs) zero e d h = refl
  getD_map_in (x ∷ xs) (suc i) e d h = getD_map_in xs i e d (omega arith)

pub replicate_cons : {A : Type 0} (n : ℕ) (x : A) (ys : List A) → replicate n x ++ (x ∷ ys) ≡ x ∷ (replicate n x ++ ys)
replicate_cons zero x ys = refl
replicate_cons {A} (suc n) x ys = ap (λ (l : List A). x ∷ l) (replicate_cons n x ys)

-- the array's first `count` places hold xs, and each other place `none`
pub record Filled {A B : Type 0} (store : A → B) (none : B) (size : ℕ) (items : List B) (count : ℕ) (xs : List A) : Type 0 where
  pub shape : items ≡ places store none size xs
  pub counted : count ≡ length xs
  pub room : length xs ≤ size

-- what stands in the first places of an array
pub filled_taken : {A B : Type 0} {store : A → B} {none : B} {size count : ℕ} {items : List B} {xs : List A} → Filled store none size items count xs
    → take count items ≡ map store xs
filled_taken {store = store} {none} {size} {xs = xs} h =
    rw (h.shape, h.counted) (take_at (map store xs) (replicate (size - length xs) none) (length xs) (length-map xs store))

module _ {A B : Type 0} {store : A → B} {none : B} {size : ℕ} where
  pub filled_none : Filled store none size (replicate size none) 0 []
  filled_none = record { shape = rw sub-zero; counted = refl; room = omega arith }

  module _ {items : List B} {count : ℕ} {xs : List A} (h : Filled store none size items count xs) where
    pub filled_length : length items ≡ size
    filled_length = rw (h.shape, length-append, length-replicate, length-map) (omega (arith, h.room))

    -- the used places as a part of the array
    pub filled_within : count ≤ length items
    filled_within = omega (arith, h.counted, h.room, filled_length)

    pub filled_part : count ≡ length (take count items)
    filled_part = sym (length-take-le count items filled_within)

    -- a place is left
    pub filled_room : length xs < size → count < size
    filled_room l = omega (arith, h.counted)

    pub filled_free : length xs < size → count < length items
    filled_free l = omega (arith, filled_room l, filled_length)

    -- what stands at a place
    pub filled_at : (i : ℕ) (e : B) (d : A) → i < count → get_or items i e ≡ store (get_or xs i d)
    filled_at i e d k =
        let l : i < length xs = omega (arith, h.counted) in
        rw h.shape (get_or-append (map store xs) (replicate (size - length xs) none) e i (rw length-map l) ∙ getD_map_in store xs i e d l)

    pub filled_inside : (i : ℕ) → i < count → i < length xs
    filled_inside i k = omega (arith, h.counted)

    -- what the value at a place means, where each element comes back
    pub filled_means : (out : B → A) → All (λ x. out (store x) ≡ x) xs → (i : ℕ) (e : B) (d : A) → i < count → out (get_or items i e) ≡ get_or xs i d
    filled_means out back i e d k = ap out (filled_at i e d k) ∙ all_at (λ x. out (store x) ≡ x) xs i d (filled_inside i k) back

    -- the next place takes one element more
    pub filled_more : (x : A) → count < size → Filled store none size (set items count (store x)) (count + 1) (xs ++ (x ∷ []))
    filled_more x r = record {
      shape =
          let n = size - (length xs + 1) in
          let e : size - length xs ≡ suc n = omega (arith, h.counted) in
          rw (h.shape, length-append xs (x ∷ []), map_append store xs (x ∷ []), e)
          (set_at (map store xs) none (replicate n none) (store x) count (length-map xs store ∙ sym h.counted)
          ∙ sym (append_snoc (map store xs) (store x) (replicate n none)));
      counted = rw length-append (ap (λ (n : ℕ). n + 1) h.counted);
      room = rw length-append (omega (arith, h.counted));
    }

  -- a turn of a loop that takes every element
  pub filled_next : {items : List B} (xs : List A) (i : ℕ) (d : A) → i < length xs → Filled store none size items i (take i xs) → i < size
      → Filled store none size (set items i (store (get_or xs i d))) (i + 1) (take (i + 1) xs)
  filled_next xs i d l h r = rw (add-one i, take-suc xs i d l, ← add-one i) (filled_more h (get_or xs i d) r)

-- a list is put into places one element after the other, up to i
pub record Putting {A : Type 0} (xs old new : List A) (i : ℕ) : Type 0 where
  pub inside : i ≤ length xs
  pub room : length xs ≤ length old
  pub long : length new ≡ length old
  pub shape : new ≡ take i xs ++ drop i old

module _ {A : Type 0} {xs old : List A} where
  pub putting_none : length xs ≤ length old → Putting xs old old 0
  putting_none h = record { inside = omega arith; room = h; long = refl; shape = refl }

  module _ {new : List A} {i : ℕ} (s : Putting xs old new i) where
    pub putting_next : (d : A) → i < length xs → Putting xs old (set new i (get_or xs i d)) (i + 1)
    putting_next d l = record {
      inside = omega arith;
      room = s.room;
      long = length-set new i (get_or xs i d) ∙ s.long;
      shape =
          rw (s.shape, drop-cons old i d (omega (arith, s.room)), add-one i, take-suc xs i d l)
          (set_at (take i xs) (get_or old i d) (drop (suc i) old) (get_or xs i d) i (length-take-le i xs (omega arith))
          ∙ sym (append_snoc (take i xs) (get_or xs i d) (drop (suc i) old)));
    }

    pub putting_end : length xs ≤ i → new ≡ xs ++ drop (length xs) old
    putting_end l =
        let e : i ≡ length xs = omega (arith, s.inside) in
        rw (e, take-length) at s.shape

-- the same of what a function makes of each element
pub record Making {A B : Type 0} (f : A → B) (xs : List A) (old new : List B) (i : ℕ) : Type 0 where
  pub inside : i ≤ length xs
  pub room : length xs ≤ length old
  pub putting : Putting (map f xs) old new i

module _ {A B : Type 0} {f : A → B} {xs : List A} {old : List B} where
  pub making_none : length xs ≤ length old → Making f xs old old 0
  making_none h = record { inside = omega arith; room = h; putting = putting_none (rw length-map h) }

  module _ {new : List B} {i : ℕ} (s : Making f xs old new i) where
    pub making_next : {y : B} (d : A) → i < length xs → y ≡ f (get_or xs i d) → Making f xs old (set new i y) (i + 1)
    making_next {y} d l e = record {
      inside = omega arith;
      room = s.room;
      putting = rw (e ∙ sym (getD_map_in f xs i y d l)) (putting_next s.putting y (rw length-map l));
    }

    pub making_end : length xs ≤ i → new ≡ map f xs ++ drop (length (map f xs)) old
    making_end l = putting_end s.putting (rw length-map l)

pub drop_replicate : {A : Type 0} (x : A) (n k : ℕ) → k ≤ n → drop k (replicate n x) ≡ replicate (n - k) x
drop_replicate x n zero h = rw sub-zero
drop_replicate x zero (suc k) h = absurd (omega arith)
drop_replicate x (suc n) (suc k) h =
    let e : n - k ≡ suc n - suc k = omega arith in
    drop_replicate x n k (omega arith) ∙ ap (λ (j : ℕ). replicate j x) e

-- a first part that is not longer than the whole
pub prefix_counted : {A : Type 0} (items : List A) (count : ℕ) {size : ℕ} → length items ≡ size → count ≤ size → count ≡ length (take count items)
prefix_counted items count e h = sym (length-take-le count items (omega (arith, e)))
