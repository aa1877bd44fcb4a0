-- Facts about ascending lists, for any element and strict order; the orders of numbers, bundles and connections.
use mathlib.Core.Path.{◌≡◌, refl, sym, ap, ◌∙◌}
use mathlib.Core.Bool.{Bool, true, false, ◌&&◌, ◌||◌, and_assoc}
use mathlib.Core.List.{List, [], ◌∷◌, ◌++◌, map}
use Prim.Native.Nat.{ℕ, zero, suc, ◌+◌, ◌-◌, ◌*◌, ◌≤◌, ◌<◌}
use native.Mathlib.Nat.{mul-le-mul_right}
use native.Mathlib.Omega.{arith}
use native.Mathlib.Decide.{dec_lt}
use lib.Dec.{ltb, eqb}
use lib.ListN.{length, get_or, take, drop, length-drop}
use lib.Seq.{drop-cons}
use borrow.Author.Tests.{lt-ltb, le-ltb, ltb-true, ltb-false, eqb-true, eq-eqb, ne_eqb}
use Rattle.std.specs.List.{IsAllAdjacentAnswer, AllAdjacentBelow}
use Rattle.region_graph.specs.Lists.{pick, exists, All, keep, insert_by, ascends, member, count_from}
use Rattle.region_graph.specs.Model.{Connection, bundle_before, connection_before}
use Rattle.region_graph.specs.Calls.{joins}
use Rattle.region_graph.proofs.Lists.{and_yes, and_left, and_fst, and_snd, false_true, pick_yes, pick_no}
use Rattle.region_graph.proofs.Lists.{all_map, all_both, all_at, all_kept, all_insert}

-- further laws of tests and lists

pub or_right : (a : Bool) {b : Bool} → b ≡ true → (a || b) ≡ true
or_right true e = refl
or_right false e = e

or_cases : {P : Type 0} (a b : Bool) → (a ≡ true → P) → (b ≡ true → P) → (a || b) ≡ true → P
or_cases true b f g e = f refl
or_cases false b f g e = g e

pub none_any : {A : Type 0} (p : A → Bool) (xs : List A) → All (λ x. p x ≡ false) xs → exists p xs ≡ false
none_any p [] h = refl
none_any p (x ∷ xs) h = rw h.0 (none_any p xs h.1)

-- what the facts need of a strict order
pub record Strict {A : Type 0} (before : A → A → Bool) : Type 0 where
  pub onward : (x y z : A) → before x y ≡ true → before y z ≡ true → before x z ≡ true

-- each element comes before all later ones
abbrev pub Rising : {A : Type 0} → (A → A → Bool) → List A → Type 0
Rising before [] = Unit {0}
Rising before (x ∷ xs) = All (λ y. before x y ≡ true) xs × Rising before xs

module _ {A : Type 0} (before : A → A → Bool) where
  pub rising_ascends : (xs : List A) → Rising before xs → ascends before xs ≡ true
  rising_ascends [] r = refl
  rising_ascends (x ∷ []) r = refl
  rising_ascends (x ∷ y ∷ ys) r = and_yes r.0.0 (rising_ascends (y ∷ ys) r.1)

  rising_keep : (p : A → Bool) (xs : List A) → Rising before xs → Rising before (keep p xs)
  rising_keep p [] r = tt
  rising_keep p (x ∷ xs) r = go (p x) (rising_keep p xs r.1)
    where
      go : (b : Bool) → Rising before (keep p xs) → Rising before (pick b (x ∷ keep p xs) (keep p xs))
      go true k = (all_kept p (λ y. before x y ≡ true) (λ y. before x y ≡ true) (λ y _ h. h) xs r.0, k)
      go false k = k

  module _ (strict : Strict before) where
    -- what comes before an element comes before all that it comes before
    all_onward : (x y : A) (xs : List A) → before x y ≡ true → All (λ z. before y z ≡ true) xs → All (λ z. before x z ≡ true) xs
    all_onward x y xs e = all_map (λ z. before y z ≡ true) (λ z. before x z ≡ true) (λ z. strict.onward x y z e) xs

    pub ascends_rising : (xs : List A) → ascends before xs ≡ true → Rising before xs
    ascends_rising [] e = tt
    ascends_rising (x ∷ []) e = (tt, tt)
    ascends_rising (x ∷ y ∷ ys) e =
        let h = and_fst (before x y) (ascends before (y ∷ ys)) e in
        let r = ascends_rising (y ∷ ys) (and_snd (before x y) (ascends before (y ∷ ys)) e) in
        ((h, all_onward x y ys h r.0), r)

    -- where an element does not come before the one at a place, it comes before none up to there
    pub none_after : (x : A) (xs : List A) (i : ℕ) (d : A) → i < length xs → Rising before xs → before x (get_or xs i d) ≡ false
        → All (λ y. before x y ≡ false) (take (suc i) xs)
    none_after x [] i d h r e = tt
    none_after x (y ∷ ys) zero d h r e = (e, tt)
    none_after x (y ∷ ys) (suc i) d h r e = (go (before x y) refl, none_after x ys i d (omega arith) r.1 e)
      where
        go : (b : Bool) → before x y ≡ b → b ≡ false
        go true f = sym (strict.onward x y (get_or ys i d) f (all_at (λ z. before y z ≡ true) ys i d (omega arith) r.0)) ∙ e
        go false f = refl

    rising_insert : (x : A) (xs : List A) → All (λ y. before x y ≡ false → before y x ≡ true) xs → Rising before xs
        → Rising before (insert_by before x xs)
    rising_insert x [] h r = (tt, tt)
    rising_insert x (y ∷ ys) h r = go (before x y) refl (rising_insert x ys h.1 r.1)
      where
        go : (b : Bool) → before x y ≡ b → Rising before (insert_by before x ys) → Rising before (pick b (x ∷ y ∷ ys) (y ∷ insert_by before x ys))
        go true e k = ((e, all_onward x y ys e r.0), r)
        go false e k = (all_insert (λ z. before y z ≡ true) before x ys (h.0 e) r.0, k)

    -- some elements leave, and one joins
    pub ascends_keep : (p : A → Bool) (xs : List A) → ascends before xs ≡ true → ascends before (keep p xs) ≡ true
    ascends_keep p xs e = rising_ascends (keep p xs) (rising_keep p xs (ascends_rising xs e))

    pub ascends_insert : (x : A) (xs : List A) → All (λ y. before x y ≡ false → before y x ≡ true) xs → ascends before xs ≡ true
        → ascends before (insert_by before x xs) ≡ true
    ascends_insert x xs h e = rising_ascends (insert_by before x xs) (rising_insert x xs h (ascends_rising xs e))

-- a list put after another: the seam is where its first element joins
pub ascends_append : {A : Type 0} (before : A → A → Bool) (xs : List A) (y : A) (ys : List A)
    → ascends before (xs ++ (y ∷ ys)) ≡ (ascends before (xs ++ (y ∷ [])) && ascends before (y ∷ ys))
ascends_append before [] y ys = refl
ascends_append before (x ∷ []) y ys = sym (and_assoc (before x y) true (ascends before (y ∷ ys)))
ascends_append before (x ∷ z ∷ xs) y ys =
    ap (λ (t : Bool). before x z && t) (ascends_append before (z ∷ xs) y ys)
    ∙ sym (and_assoc (before x z) (ascends before (z ∷ (xs ++ (y ∷ [])))) (ascends before (y ∷ ys)))

-- what the elements are ordered by ascends as they do
pub ascends_map : {A B : Type 0} (key : A → B) (before : B → B → Bool) (xs : List A)
    → ascends before (map key xs) ≡ ascends (λ x y. before (key x) (key y)) xs
ascends_map key before [] = refl
ascends_map key before (x ∷ []) = refl
ascends_map key before (x ∷ y ∷ ys) = ap (λ (t : Bool). before (key x) (key y) && t) (ascends_map key before (y ∷ ys))

-- the orders by one number

strict_by : {A : Type 0} (key : A → ℕ) → Strict (λ x y. ltb (key x) (key y))
strict_by key = record { onward = λ x y z e f. lt-ltb (key x) (key z) (omega (arith, ltb-true (key x) (key y) e, ltb-true (key y) (key z) f)) }

pub strict_numbers : Strict ltb
strict_numbers = strict_by (λ n. n)

pub strict_bundles : Strict bundle_before
strict_bundles = strict_by (λ b. b.location)

-- of two that differ one comes first
pub numbers_differ : (a b : ℕ) → (a ≡ b → ⊥) → ltb a b ≡ false → ltb b a ≡ true
numbers_differ a b n e = lt-ltb b a (omega (arith, ltb-false a b e))

-- the order by source, then by target

source_before : (a b : Connection) → a.source < b.source → connection_before a b ≡ true
source_before a b h = rw (lt-ltb a.source b.source h)

target_before : (a b : Connection) → a.source ≡ b.source → a.target < b.target → connection_before a b ≡ true
target_before a b e h = or_right (ltb a.source b.source) (and_yes (eq-eqb _ _ e) (lt-ltb _ _ h))

before_cases : {P : Type 0} (a b : Connection) → (a.source < b.source → P) → (a.source ≡ b.source → a.target < b.target → P)
    → connection_before a b ≡ true → P
before_cases a b f g =
    or_cases (ltb a.source b.source) (eqb a.source b.source && ltb a.target b.target) (λ e. f (ltb-true _ _ e))
    (λ e. g (eqb-true _ _ (and_fst (eqb a.source b.source) _ e)) (ltb-true _ _ (and_snd (eqb a.source b.source) _ e)))

pub strict_connections : Strict connection_before
strict_connections =
    record {
      onward = λ a b c e f.
          before_cases a b
          (λ h. before_cases b c (λ k. source_before a c (omega arith)) (λ k _. source_before a c (omega arith)) f)
          (λ h i. before_cases b c (λ k. source_before a c (omega arith)) (λ k j. target_before a c (omega arith) (omega arith)) f) e;
    }

pub connections_differ : (a b : Connection) → joins a.source a.target b ≡ false → connection_before a b ≡ false
    → connection_before b a ≡ true
connections_differ a b n e =
    go (dec_lt b.source a.source) (dec_lt a.source b.source) (dec_lt b.target a.target) (dec_lt a.target b.target)
  where
    go : Dec (b.source < a.source) → Dec (a.source < b.source) → Dec (b.target < a.target) → Dec (a.target < b.target)
        → connection_before b a ≡ true
    go (yes h) _ _ _ = source_before b a h
    go (no h) (yes k) _ _ = false_true (sym e ∙ source_before a b k)
    go (no h) (no k) (yes i) _ = target_before b a (omega arith) i
    go (no h) (no k) (no i) (yes j) = false_true (sym e ∙ target_before a b (omega arith) j)
    go (no h) (no k) (no i) (no j) =
        false_true (sym n ∙ and_yes (eq-eqb b.source a.source (omega arith)) (eq-eqb b.target a.target (omega arith)))

-- an order by one number, then by another below a limit, is that of one number
pub pair_order : (n a b c d : ℕ) → b < n → d < n → (ltb a c || (eqb a c && ltb b d)) ≡ ltb (a * n + b) (c * n + d)
pair_order n a b c d h k = go (dec_lt a c) (dec_lt c a) (dec_lt b d)
  where
    go : Dec (a < c) → Dec (c < a) → Dec (b < d) → (ltb a c || (eqb a c && ltb b d)) ≡ ltb (a * n + b) (c * n + d)
    go (yes l) _ _ = rw (lt-ltb a c l) (sym (lt-ltb (a * n + b) (c * n + d) (omega (arith, mul-le-mul_right n l))))
    go (no l) (yes m) _ =
        rw (le-ltb a c (omega arith), ne_eqb a c (λ e. omega arith)) (sym (le-ltb (a * n + b) (c * n + d) (omega (arith, mul-le-mul_right n m))))
    go (no l) (no m) (yes t) =
        let e : a ≡ c = omega arith in
        rw (le-ltb a c (omega arith), eq-eqb a c e, lt-ltb b d t) (sym (lt-ltb (a * n + b) (c * n + d) (omega (arith, ap (λ (s : ℕ). s * n) e))))
    go (no l) (no m) (no t) =
        let e : a ≡ c = omega arith in
        rw (le-ltb a c (omega arith), eq-eqb a c e, le-ltb b d (omega arith)) (sym (le-ltb (a * n + b) (c * n + d) (omega (arith, ap (λ (s : ℕ). s * n) e))))

-- that of connections, where targets are below the limit
pub connection_order : (n : ℕ) (a b : Connection) → a.target < n → b.target < n
    → connection_before a b ≡ ltb (a.source * n + a.target) (b.source * n + b.target)
connection_order n a b h k = pair_order n a.source a.target b.source b.target h k

-- what `is_sorted_by` answers

and_no : (a : Bool) {b : Bool} → b ≡ false → (a && b) ≡ false
and_no true e = e
and_no false e = refl

module _ {A : Type 0} (before : A → A → Bool) where
  next : (k : ℕ) → suc k + 1 ≡ suc (k + 1)
  next k = omega arith

  adjacent_all : (xs : List A) → AllAdjacentBelow (λ x y. true ≡ before x y) xs (length xs) → ascends before xs ≡ true
  adjacent_all [] h = refl
  adjacent_all (x ∷ []) h = refl
  adjacent_all (x ∷ y ∷ ys) h = and_yes (sym (h 0 x (omega arith))) (adjacent_all (y ∷ ys) (λ k d l. rw (next k) at (h (suc k) d (omega arith))))

  adjacent_fails : (xs : List A) (k : ℕ) → k + 1 < length xs → ((d : A) → false ≡ before (get_or xs k d) (get_or xs (k + 1) d)) → ascends before xs ≡ false
  adjacent_fails [] k l h = absurd (omega arith)
  adjacent_fails (x ∷ []) k l h = absurd (omega arith)
  adjacent_fails (x ∷ y ∷ ys) zero l h = and_left _ (sym (h x))
  adjacent_fails (x ∷ y ∷ ys) (suc k) l h = and_no (before x y) (adjacent_fails (y ∷ ys) k (omega arith) (λ d. rw (next k) at (h d)))

  pub ascends_adjacent : (xs : List A) (r : Bool) → IsAllAdjacentAnswer (λ x y b. b ≡ before x y) xs r → r ≡ ascends before xs
  ascends_adjacent xs true h = sym (adjacent_all xs h)
  ascends_adjacent xs false h = sym (adjacent_fails xs h.0 h.1 h.2)

-- a test of each element from the second on against the one before it

module _ {A : Type 0} (before : A → A → Bool) where
  ascends_short : (xs : List A) → length xs ≤ 1 → ascends before xs ≡ true
  ascends_short [] h = refl
  ascends_short (x ∷ []) h = refl
  ascends_short (x ∷ y ∷ ys) h = absurd (omega arith)

  module _ (xs : List A) (i : ℕ) (pos : 1 ≤ i) where
    pub steps_end : length xs ≤ i → ascends before xs ≡ ascends before (drop (i - 1) xs) → true ≡ ascends before xs
    steps_end h e = sym (e ∙ ascends_short (drop (i - 1) xs) (rw length-drop (omega arith)))

    module _ (d : A) (h : i < length xs) where
      step_next : ascends before (drop (i - 1) xs) ≡ (before (get_or xs (i - 1) d) (get_or xs i d) && ascends before (drop i xs))
      step_next =
          let s : suc (i - 1) ≡ i = omega arith in
          rw (drop-cons xs (i - 1) d (omega arith), s, drop-cons xs i d h)

      pub steps_later : before (get_or xs (i - 1) d) (get_or xs i d) ≡ true → ascends before xs ≡ ascends before (drop (i - 1) xs)
          → ascends before xs ≡ ascends before (drop (i + 1 - 1) xs)
      steps_later t e =
          let s : i + 1 - 1 ≡ i = omega arith in
          rw s (e ∙ step_next ∙ rw t)

      pub steps_stop : before (get_or xs (i - 1) d) (get_or xs i d) ≡ false → ascends before xs ≡ ascends before (drop (i - 1) xs)
          → false ≡ ascends before xs
      steps_stop t e = sym (e ∙ step_next ∙ and_left (ascends before (drop i xs)) t)

-- an ascending list of numbers below k is what a count to k meets

abbrev Span : ℕ → ℕ → ℕ → Type 0
Span a k x = (a ≤ x) × (x < a + k)

below_span : (a k : ℕ) (xs : List ℕ) → All (Span (suc a) k) xs → member a xs ≡ false
below_span a k xs h = none_any (eqb a) xs (all_map (Span (suc a) k) (λ x. eqb a x ≡ false) (λ x s. ne_eqb a x (omega arith)) xs h)

members_from : (k a : ℕ) (p : ℕ → Bool) (xs : List ℕ) → ((n : ℕ) → a ≤ n → p n ≡ member n xs) → All (Span a k) xs → Rising ltb xs
    → keep p (count_from a k) ≡ xs
members_from zero a p [] agree h r = refl
members_from zero a p (x ∷ xs) agree h r = absurd (omega arith)
members_from (suc k) a p [] agree h r =
    pick_no _ _ (agree a (omega arith)) ∙ members_from k (suc a) p [] (λ n l. agree n (omega arith)) tt tt
members_from (suc k) a p (x ∷ xs) agree h r = go (dec_lt a x) (members_from k (suc a) p)
  where
    later : All (Span (suc a) k) xs
    later =
        all_map (λ y. Span a (suc k) y × (ltb x y ≡ true)) (Span (suc a) k) (λ y s. omega (arith, ltb-true x y s.1)) xs
        (all_both (Span a (suc k)) (λ y. ltb x y ≡ true) xs h.1 r.0)

    go : Dec (a < x)
        → ((ys : List ℕ) → ((n : ℕ) → suc a ≤ n → p n ≡ member n ys) → All (Span (suc a) k) ys → Rising ltb ys → keep p (count_from (suc a) k) ≡ ys)
        → keep p (count_from a (suc k)) ≡ x ∷ xs
    go (yes l) from =
        let s : All (Span (suc a) k) (x ∷ xs) = ((omega arith), later) in
        pick_no _ _ (agree a (omega arith) ∙ below_span a k (x ∷ xs) s) ∙ from (x ∷ xs) (λ n m. agree n (omega arith)) s r
    go (no l) from =
        let e : a ≡ x = omega arith in
        pick_yes _ _ (agree a (omega arith) ∙ rw (eq-eqb a x e))
        ∙ (λ i. e i ∷ from xs (λ n m. agree n (omega arith) ∙ rw (ne_eqb n x (omega arith))) later r.1 i)

pub members_back : (k : ℕ) (xs : List ℕ) → All (λ x. x < k) xs → ascends ltb xs ≡ true → keep (λ n. member n xs) (count_from 0 k) ≡ xs
members_back k xs h e =
    members_from k 0 (λ n. member n xs) xs (λ n l. refl) (all_map (λ x. x < k) (Span 0 k) (λ x l. omega arith) xs h)
    (ascends_rising ltb strict_numbers xs e)
