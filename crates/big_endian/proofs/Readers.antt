-- Values that can be read back from their bytes, whatever follows them: pieces put together.
use mathlib.Core.Path.{◌≡◌, refl, ap, ◌∙◌}
use mathlib.Core.List.{List, [], ◌∷◌, ◌++◌, append_assoc}
use Prim.Native.Nat.{ℕ, zero, suc, ◌^◌, ◌≤◌, ◌<◌}
use native.Mathlib.Omega.{arith}
use lib.ListN.{length, take, drop, length-append}
use lib.Seq.{take_at, drop_at}
use Rattle.region_graph.specs.Lists.{All, concat_map}
use Rattle.big_endian.specs.Bytes.{big, counted, sized}
use Rattle.big_endian.proofs.Digits.{big_length}
use Rattle.big_endian.proofs.Delimits.{Reader, read_number}

-- elements one after the other, with their count in front
module _ {A : Type 0} where
  pub read_each : (List ℕ → A × List ℕ) → ℕ → List ℕ → List A × List ℕ
  read_each f zero s = ([], s)
  read_each f (suc n) s = ((f s).0 ∷ (read_each f n (f s).1).0, (read_each f n (f s).1).1)

  read_counted : (List ℕ → A × List ℕ) → List ℕ → List A × List ℕ
  read_counted f [] = ([], [])
  read_counted f (n ∷ s) = read_each f n s

  module _ {good : A → Type 0} {bytes : A → List ℕ} (p : Reader good bytes) where
    pub concat_back : (xs : List A) (r : List ℕ) → All good xs → read_each p.read (length xs) (concat_map bytes xs ++ r) ≡ (xs, r)
    unfolding read_each
    concat_back [] r h = refl
    concat_back (x ∷ xs) r h =
        ap next (ap p.read (append_assoc (bytes x) (concat_map bytes xs) r) ∙ p.back x (concat_map bytes xs ++ r) h.0)
        ∙ (λ i. (x ∷ (concat_back xs r h.1 i).0, (concat_back xs r h.1 i).1))
      where
        next : A × List ℕ → List A × List ℕ
        next q = (q.0 ∷ (read_each p.read (length xs) q.1).0, (read_each p.read (length xs) q.1).1)

    -- a count, and as many elements
    pub read_list : Reader (All good) (counted bytes)
    unfolding read_counted
    read_list = record { read = read_counted p.read; back = λ xs r h. concat_back xs r h }

-- two values one after the other
pub read_both : {A B : Type 0} {good : A → Type 0} {bytes : A → List ℕ} {good' : B → Type 0} {bytes' : B → List ℕ}
    → Reader good bytes → Reader good' bytes' → Reader (λ (q : A × B). good q.0 × good' q.1) (λ q. bytes q.0 ++ bytes' q.1)
read_both {A} {B} {good} {bytes} {good'} {bytes'} p p' = record { read = λ s. next (p.read s); back = back }
  where
    next : A × List ℕ → (A × B) × List ℕ
    next q = ((q.0, (p'.read q.1).0), (p'.read q.1).1)

    back : (q : A × B) (r : List ℕ) → good q.0 × good' q.1 → next (p.read ((bytes q.0 ++ bytes' q.1) ++ r)) ≡ (q, r)
    back q r h =
        ap next (ap p.read (append_assoc (bytes q.0) (bytes' q.1) r) ∙ p.back q.0 (bytes' q.1 ++ r) h.0)
        ∙ (λ i. ((q.0, (p'.back q.1 r h.1 i).0), (p'.back q.1 r h.1 i).1))

-- a value with its length in front
pub read_sized : {A : Type 0} {good : A → Type 0} {bytes : A → List ℕ} (w : ℕ) → Reader good bytes → Reader good (sized w bytes)
read_sized {bytes = bytes} w p =
    record {
      read = λ s. p.read (drop w s);
      back = λ x r h.
          ap (λ (s : List ℕ). p.read (drop w s)) (append_assoc (big w (length (bytes x))) (bytes x) r)
          ∙ ap p.read (drop_at (big w (length (bytes x))) (bytes x ++ r) w (big_length w (length (bytes x)))) ∙ p.back x r h;
    }

-- a value that has the bytes of another
pub read_as : {A B : Type 0} {good : A → Type 0} {bytes : A → List ℕ} (to : A → B) (from : B → A) → ((y : B) → to (from y) ≡ y)
    → Reader good bytes → Reader (λ y. good (from y)) (λ y. bytes (from y))
read_as to from same p =
    record {
      read = λ s. (to (p.read s).0, (p.read s).1);
      back = λ y r h. (λ i. (to (p.back (from y) r h i).0, (p.back (from y) r h i).1)) ∙ (λ i. (same y i, r));
    }

-- fewer values
pub read_where : {A : Type 0} {good good' : A → Type 0} {bytes : A → List ℕ} → ((x : A) → good' x → good x)
    → Reader good bytes → Reader good' bytes
read_where f p = record { read = p.read; back = λ x r h. p.back x r (f x h) }

-- a value that its bytes alone tell, with their length in front
pub read_length : {A : Type 0} {good : A → Type 0} {bytes : A → List ℕ} (w : ℕ) (of : List ℕ → A) → ((x : A) → good x → of (bytes x) ≡ x)
    → ((x : A) → good x → length (bytes x) < 256 ^ w) → Reader good (sized w bytes)
read_length {A} {good} {bytes} w of same small = record { read = λ s. next ((read_number w).read s); back = back }
  where
    next : ℕ × List ℕ → A × List ℕ
    next q = (of (take q.0 q.1), drop q.0 q.1)

    back : (x : A) (r : List ℕ) → good x → next ((read_number w).read (sized w bytes x ++ r)) ≡ (x, r)
    back x r h =
        let n = length (bytes x) in
        ap next (ap (read_number w).read (append_assoc (big w n) (bytes x) r) ∙ (read_number w).back n (bytes x ++ r) (small x h))
        ∙ (λ i. ((ap of (take_at (bytes x) r n refl) ∙ same x h) i, drop_at (bytes x) r n refl i))

-- elements one after the other, up to the end
module _ {A : Type 0} where
  read_rows : (List ℕ → A × List ℕ) → ℕ → List ℕ → List A
  read_rows f zero s = []
  read_rows f (suc k) [] = []
  read_rows f (suc k) (b ∷ s) = (f (b ∷ s)).0 ∷ read_rows f k (f (b ∷ s)).1

  module _ {good : A → Type 0} {bytes : A → List ℕ} (p : Reader good bytes) (some : (x : A) → 0 < length (bytes x)) where
    -- what some bytes read as
    pub rows_of : List ℕ → List A
    rows_of s = read_rows p.read (length s) s

    step : (k : ℕ) (s : List ℕ) → 0 < length s → read_rows p.read (suc k) s ≡ (p.read s).0 ∷ read_rows p.read k (p.read s).1
    unfolding read_rows
    step k [] h = absurd (omega arith)
    step k (b ∷ s) h = refl

    read_back : (k : ℕ) (xs : List A) → length xs ≤ k → All good xs → read_rows p.read k (concat_map bytes xs) ≡ xs
    unfolding read_rows
    read_back zero [] l h = refl
    read_back (suc k) [] l h = refl
    read_back zero (x ∷ xs) l h = absurd (omega arith)
    read_back (suc k) (x ∷ xs) l h =
        let rest = concat_map bytes xs in
        step k (bytes x ++ rest) (omega (arith, some x, length-append (bytes x) rest))
        ∙ ap (λ (q : A × List ℕ). q.0 ∷ read_rows p.read k q.1) (p.back x rest h.0)
        ∙ ap (λ (l : List A). x ∷ l) (read_back k xs (omega arith) h.1)

    few : (xs : List A) → length xs ≤ length (concat_map bytes xs)
    few [] = omega arith
    few (x ∷ xs) = omega (arith, some x, few xs, length-append (bytes x) (concat_map bytes xs))

    -- the elements whose bytes they are
    pub rows_back : (xs : List A) → All good xs → rows_of (concat_map bytes xs) ≡ xs
    unfolding rows_of
    rows_back xs h = read_back (length (concat_map bytes xs)) xs (few xs) h
