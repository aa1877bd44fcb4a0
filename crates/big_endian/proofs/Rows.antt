-- Elements one after the other, in an order that a key gives: their bytes tell them apart, and a loop reads one after the other.
use mathlib.Core.Path.{◌≡◌, refl, sym, ap, ◌∙◌, subst}
use mathlib.Core.Bool.{Bool, true, and-true}
use mathlib.Core.List.{List, [], ◌∷◌, ◌++◌, append-nil, append_assoc}
use Prim.Native.Nat.{ℕ, ◌+◌, ◌≤◌, ◌<◌}
use native.Mathlib.Numerals.{add-one}
use native.Mathlib.Decide.{dec_lt}
use native.Mathlib.Omega.{arith}
use borrow.Author.Tests.{leb-true, le-leb}
use lib.Dec.{ltb, leb}
use lib.ListN.{length, drop, length-append, length-drop}
use Rattle.region_graph.specs.Lists.{All, ascends, concat_map}
use Rattle.region_graph.proofs.Lists.{and_fst, all_join, all_rest, concat_snoc}
use Rattle.region_graph.proofs.Ascending.{ascends_append}
use Rattle.big_endian.specs.Parsing.{Parsed}
use Rattle.big_endian.proofs.Delimits.{Delimits}

-- elements whose bytes tell them apart, and whose order is that of a key
pub record Elements (A : Type 0) : Type 1 where
  pub good : A → Type 0
  pub bytes : A → List ℕ
  pub before : A → A → Bool
  pub key : A → ℕ
  pub same : Delimits good bytes ◌≡◌
  pub keyed : (x y : A) → good x → good y → before x y ≡ ltb (key x) (key y)

module _ {A : Type 0} (k : Elements A) where
  abbrev pub all_bytes : List A → List ℕ
  all_bytes = concat_map k.bytes

  -- ys begins with xs, and its other elements stand at r
  pub record Begins (xs ys : List A) (r t : List ℕ) : Type 0 where
    pub rest : List A
    pub split : ys ≡ xs ++ rest
    pub left : r ≡ all_bytes rest ++ t

  pub begins : (xs ys : List A) (r t : List ℕ) → All k.good xs → All k.good ys → length xs ≤ length ys
      → all_bytes xs ++ r ≡ all_bytes ys ++ t → Begins xs ys r t
  begins [] ys r t h g l e = record { rest = ys; split = refl; left = e }
  begins (x ∷ xs) [] r t h g l e = absurd (omega arith)
  begins (x ∷ xs) (y ∷ ys) r t h g l e =
      let f = sym (append_assoc (k.bytes x) (all_bytes xs) r) ∙ e ∙ append_assoc (k.bytes y) (all_bytes ys) t in
      let d = k.same x y (all_bytes xs ++ r) (all_bytes ys ++ t) h.0 g.0 f in
      let b = begins xs ys r t h.1 g.1 (omega arith) d.1 in
      record { rest = b.rest; split = λ i. sym d.0 i ∷ b.split i; left = b.left }

  -- the elements xs were read, in order, from `from` to `at`; the next one must have at least the key `least`
  pub record Going (s : List ℕ) (from : ℕ) (xs : List A) (at least : ℕ) : Type 0 where
    pub every : All k.good xs
    pub shape : drop from s ≡ all_bytes xs ++ drop at s
    pub ends : at ≡ from + length (all_bytes xs)
    pub room : at ≤ length s
    pub ascend : ascends k.before xs ≡ true
    pub next : (y : A) → k.good y → ascends k.before (xs ++ (y ∷ [])) ≡ leb least (k.key y)

  -- no good element with such a key stands at a place
  abbrev pub NoNext : List ℕ → ℕ → ℕ → Type 0
  NoNext s at least = (z : A) (r : List ℕ) → k.good z → least ≤ k.key z → drop at s ≡ k.bytes z ++ r → ⊥

  -- one stands there whose key is too low
  pub low_next : {s : List ℕ} {at next least : ℕ} → (x : A) → Parsed k.good k.bytes s at x next → k.key x < least → NoNext s at least
  low_next {s} {next = next} x p l z r h g e =
      omega (arith, ap k.key (k.same x z (drop next s) r p.is_good h (sym p.shape ∙ e)).0)

  pub going_none : {s : List ℕ} {from : ℕ} → from ≤ length s → Going s from [] from 0
  going_none h = record {
    every = tt;
    shape = refl;
    ends = omega arith;
    room = h;
    ascend = refl;
    next = λ y g. sym (le-leb 0 (k.key y) (omega arith));
  }

  module _ {s : List ℕ} {from : ℕ} {xs : List A} {at least : ℕ} (g : Going s from xs at least) where
    -- one element more
    pub going_more : {x : A} {next : ℕ} → Parsed k.good k.bytes s at x next → least ≤ k.key x
        → Going s from (xs ++ (x ∷ [])) next (k.key x + 1)
    going_more {x} {next} p h = record {
      every = all_join k.good xs (x ∷ []) g.every (p.is_good, tt);
      shape =
          g.shape ∙ ap (λ (l : List ℕ). all_bytes xs ++ l) p.shape ∙ sym (append_assoc (all_bytes xs) (k.bytes x) (drop next s))
          ∙ ap (λ (l : List ℕ). l ++ drop next s) (sym (concat_snoc k.bytes xs x));
      ends = rw (concat_snoc, length-append) (omega (arith, g.ends, p.ends));
      room = p.room;
      ascend = joins;
      next = later;
    }
      where
        joins : ascends k.before (xs ++ (x ∷ [])) ≡ true
        joins = g.next x p.is_good ∙ le-leb least (k.key x) h

        later : (y : A) → k.good y → ascends k.before ((xs ++ (x ∷ [])) ++ (y ∷ [])) ≡ leb (k.key x + 1) (k.key y)
        later y gy =
            rw (append_assoc, add-one)
            (ascends_append k.before xs x (y ∷ []) ∙ rw (joins, k.keyed x y p.is_good gy) (and-true _))

    -- a longer list in order has its next element at `at`
    pub going_past : (ys : List A) (t : List ℕ) → length xs < length ys → All k.good ys → ascends k.before ys ≡ true
        → drop from s ≡ all_bytes ys ++ t → NoNext s at least → ⊥
    going_past ys t h every rising e u =
        let b = begins xs ys (drop at s) t g.every every (omega arith) (sym g.shape ∙ e) in
        go b.rest b.split b.left
      where
        go : (l : List A) → ys ≡ xs ++ l → drop at s ≡ all_bytes l ++ t → ⊥
        go [] f i = omega (arith, ap length f ∙ length-append xs [])
        go (z ∷ l) f i =
            let gz = (all_rest k.good xs (z ∷ l) (subst (All k.good) f every)).0 in
            let rises = sym (ascends_append k.before xs z l) ∙ ap (ascends k.before) (sym f) ∙ rising in
            u z (all_bytes l ++ t) gz (leb-true least (k.key z) (sym (g.next z gz) ∙ and_fst _ (ascends k.before (z ∷ l)) rises))
            (i ∙ append_assoc (k.bytes z) (all_bytes l) t)

    -- the loop stands before the end, where no next element stands: these bytes are those of no elements in order
    pub row_broken : at < length s → NoNext s at least → (ys : List A) → All k.good ys → ascends k.before ys ≡ true
        → drop from s ≡ all_bytes ys → ⊥
    row_broken h u ys every rising e = go (dec_lt (length xs) (length ys))
      where
        whole : drop from s ≡ all_bytes ys ++ []
        whole = e ∙ sym (append-nil (all_bytes ys))

        go : Dec (length xs < length ys) → ⊥
        go (yes l) = going_past ys [] l every rising whole u
        go (no l) =
            let b = begins ys xs [] (drop at s) every g.every (omega arith) (sym whole ∙ g.shape) in
            omega (arith, ap length b.left ∙ length-append (all_bytes b.rest) (drop at s), length-drop at s)
