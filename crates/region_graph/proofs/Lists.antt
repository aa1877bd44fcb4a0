-- Laws of tests, `keep`, `exists`, `every`, `position`, `insert_by`, `All`, `concat_map` and lists without repetitions, for any element and test.
use mathlib.Core.Path.{◌≡◌, refl, sym, ap, ◌∙◌, subst}
use mathlib.Core.Bool.{Bool, true, false, not, ◌&&◌, ◌||◌, and-true, and-false, and_assoc}
use mathlib.Core.List.{List, [], ◌∷◌, ◌++◌, map, append-nil, append_assoc}
use Prim.Native.Nat.{ℕ, zero, suc, ◌+◌, ◌*◌, ◌≤◌, ◌<◌}
use native.Mathlib.Numerals.{add-one}
use native.Mathlib.Nat.{add-zero, zero-mul, suc-mul}
use native.Mathlib.Omega.{arith}
use lib.Dec.{ltb, eqb}
use lib.ListN.{length, get_or, take, drop, length-append, drop_of_length-le}
use lib.Seq.{take-suc, drop-cons}
use borrow.Author.Tests.{lt-ltb, le-ltb, eqb-true, eqb-false, eq-eqb, ne_eqb, not-true, not-false}
use Rattle.region_graph.specs.Lists.{pick, exists, every, All, keep, position, insert_by, member, concat_map, count_from}

-- tests

pub and_yes : {a b : Bool} → a ≡ true → b ≡ true → (a && b) ≡ true
and_yes e f = rw (e, f)

pub and_left : {a : Bool} (b : Bool) → a ≡ false → (a && b) ≡ false
and_left b e = rw e

pub and_right : {a b : Bool} → a ≡ true → b ≡ false → (a && b) ≡ false
and_right e f = rw (e, f)

pub and_fst : (a b : Bool) → (a && b) ≡ true → a ≡ true
and_fst true b e = refl
and_fst false b e = e

pub false_true : {A : Type 0} → false ≡ true → A
false_true e = absurd (eqb-false 0 1 refl (ap (λ (t : Bool). pick t 1 0) e))

pub and_snd : (a b : Bool) → (a && b) ≡ true → b ≡ true
and_snd true b e = e
and_snd false b e = false_true e

-- two tests, one after the other: the first is not passed, and so the second is not asked; the first is passed, and so the second tells
module _ {r a : Bool} (b : Bool) (e : r ≡ a) where
  pub and_stop : not r ≡ true → false ≡ (a && b)
  and_stop t = sym (and_left b (sym e ∙ not-true r t))

  pub and_last : {s : Bool} → not r ≡ false → s ≡ b → s ≡ (a && b)
  and_last t f = f ∙ sym (ap (λ (x : Bool). x && b) (sym e ∙ not-false r t))

pub eqb_sym : (a b : ℕ) → eqb a b ≡ eqb b a
eqb_sym a b = go (eqb a b) refl
  where
    go : (t : Bool) → eqb a b ≡ t → t ≡ eqb b a
    go true e = sym (eq-eqb b a (sym (eqb-true a b e)))
    go false e = sym (ne_eqb b a (λ f. eqb-false a b e (sym f)))

or_swap : (a b c : Bool) → (a || (b || c)) ≡ (b || (a || c))
or_swap true true c = refl
or_swap true false c = refl
or_swap false b c = refl

module _ {A : Type 0} where
  pub pick_yes : {b : Bool} (x y : A) → b ≡ true → pick b x y ≡ x
  pick_yes x y e = rw e

  pub pick_no : {b : Bool} (x y : A) → b ≡ false → pick b x y ≡ y
  pick_no x y e = rw e

-- elements that pass

module _ {A : Type 0} (p : A → Bool) where
  pub keep_append : (xs ys : List A) → keep p (xs ++ ys) ≡ keep p xs ++ keep p ys
  keep_append [] ys = refl
  keep_append (x ∷ xs) ys = go (p x) (keep_append xs ys)
    where
      go : (b : Bool) → keep p (xs ++ ys) ≡ keep p xs ++ keep p ys
          → pick b (x ∷ keep p (xs ++ ys)) (keep p (xs ++ ys)) ≡ pick b (x ∷ keep p xs) (keep p xs) ++ keep p ys
      go true h = ap (λ (l : List A). x ∷ l) h
      go false h = h

  pub keep_length : (xs : List A) → length (keep p xs) ≤ length xs
  keep_length [] = omega arith
  keep_length (x ∷ xs) = go (p x) (keep_length xs)
    where
      go : (b : Bool) → length (keep p xs) ≤ length xs → length (pick b (x ∷ keep p xs) (keep p xs)) ≤ suc (length xs)
      go true h = omega arith
      go false h = omega arith

  module _ (xs : List A) (i : ℕ) (d : A) (h : i < length xs) where
    -- one element more
    keep_next : keep p (take (i + 1) xs) ≡ keep p (take i xs) ++ keep p (get_or xs i d ∷ [])
    keep_next = rw (add-one, take-suc xs i d h) (keep_append (take i xs) (get_or xs i d ∷ []))

    pub keep_took : p (get_or xs i d) ≡ true → keep p (take (i + 1) xs) ≡ keep p (take i xs) ++ (get_or xs i d ∷ [])
    keep_took e = keep_next ∙ ap (λ (l : List A). keep p (take i xs) ++ l) (pick_yes (get_or xs i d ∷ []) [] e)

    pub keep_left : p (get_or xs i d) ≡ false → keep p (take (i + 1) xs) ≡ keep p (take i xs)
    keep_left e =
        keep_next ∙ ap (λ (l : List A). keep p (take i xs) ++ l) (pick_no (get_or xs i d ∷ []) [] e) ∙ append-nil (keep p (take i xs))

  -- tests that agree keep the same elements
  pub keep_same : (q : A → Bool) (xs : List A) → All (λ x. p x ≡ q x) xs → keep p xs ≡ keep q xs
  keep_same q [] h = refl
  keep_same q (x ∷ xs) h = rw (h.0, keep_same q xs h.1)

  pub exists_append : (xs ys : List A) → exists p (xs ++ ys) ≡ (exists p xs || exists p ys)
  exists_append [] ys = refl
  exists_append (x ∷ xs) ys = go (p x) (exists_append xs ys)
    where
      go : (b : Bool) → exists p (xs ++ ys) ≡ (exists p xs || exists p ys) → (b || exists p (xs ++ ys)) ≡ (b || exists p xs || exists p ys)
      go true h = refl
      go false h = h

  -- an element joins
  pub exists_insert : (before : A → A → Bool) (x : A) (xs : List A) → exists p (insert_by before x xs) ≡ (p x || exists p xs)
  exists_insert before x [] = refl
  exists_insert before x (y ∷ ys) = go (before x y) (exists_insert before x ys)
    where
      go : (b : Bool) → exists p (insert_by before x ys) ≡ (p x || exists p ys)
          → exists p (pick b (x ∷ y ∷ ys) (y ∷ insert_by before x ys)) ≡ (p x || (p y || exists p ys))
      go true h = refl
      go false h = ap (λ (t : Bool). p y || t) h ∙ or_swap (p y) (p x) (exists p ys)

  -- some elements leave
  pub exists_keep : (q : A → Bool) (xs : List A) → exists p (keep q xs) ≡ exists (λ x. q x && p x) xs
  exists_keep q [] = refl
  exists_keep q (x ∷ xs) = go (q x) (exists_keep q xs)
    where
      go : (b : Bool) → exists p (keep q xs) ≡ exists (λ y. q y && p y) xs
          → exists p (pick b (x ∷ keep q xs) (keep q xs)) ≡ ((b && p x) || exists (λ y. q y && p y) xs)
      go true h = ap (λ (t : Bool). p x || t) h
      go false h = h

  -- a search among the elements from i on
  module _ (xs : List A) (i : ℕ) (d : A) (h : i < length xs) where
    exists_next : exists p (drop i xs) ≡ (p (get_or xs i d) || exists p (drop (i + 1) xs))
    exists_next = rw add-one (ap (exists p) (drop-cons xs i d h))

    pub exists_here : exists p xs ≡ exists p (drop i xs) → p (get_or xs i d) ≡ true → true ≡ exists p xs
    exists_here e t = sym (e ∙ exists_next ∙ rw t)

    pub exists_later : exists p xs ≡ exists p (drop i xs) → p (get_or xs i d) ≡ false → exists p xs ≡ exists p (drop (i + 1) xs)
    exists_later e t = e ∙ exists_next ∙ rw t

    every_next : every p (drop i xs) ≡ (p (get_or xs i d) && every p (drop (i + 1) xs))
    every_next = rw add-one (ap (every p) (drop-cons xs i d h))

    pub every_stop : every p xs ≡ every p (drop i xs) → p (get_or xs i d) ≡ false → false ≡ every p xs
    every_stop e t = sym (e ∙ every_next ∙ rw t)

    pub every_later : every p xs ≡ every p (drop i xs) → p (get_or xs i d) ≡ true → every p xs ≡ every p (drop (i + 1) xs)
    every_later e t = e ∙ every_next ∙ rw t

    -- where no element ends the search
    pub every_also : (b : Bool) → every p xs ≡ (b && every p (drop i xs)) → every p xs ≡ ((b && p (get_or xs i d)) && every p (drop (i + 1) xs))
    every_also b e = e ∙ ap (λ (t : Bool). b && t) every_next ∙ sym (and_assoc b (p (get_or xs i d)) (every p (drop (i + 1) xs)))

    position_next : position p (drop i xs) ≡ pick (p (get_or xs i d)) 0 (suc (position p (drop (i + 1) xs)))
    position_next = rw add-one (ap (position p) (drop-cons xs i d h))

    pub position_here : position p xs ≡ i + position p (drop i xs) → p (get_or xs i d) ≡ true → i ≡ position p xs
    position_here e t = sym (e ∙ ap (λ (m : ℕ). i + m) (position_next ∙ pick_yes 0 (suc (position p (drop (i + 1) xs))) t) ∙ add-zero i)

    pub position_later : position p xs ≡ i + position p (drop i xs) → p (get_or xs i d) ≡ false
        → position p xs ≡ i + 1 + position p (drop (i + 1) xs)
    position_later e t =
        let f : position p (drop i xs) ≡ suc (position p (drop (i + 1) xs))
        = position_next ∙ pick_no 0 (suc (position p (drop (i + 1) xs))) t in
        omega arith

  pub exists_end : (xs : List A) (i : ℕ) → exists p xs ≡ exists p (drop i xs) → length xs ≤ i → false ≡ exists p xs
  exists_end xs i e h = sym (e ∙ rw (drop_of_length-le xs h))

  pub every_end : (xs : List A) (i : ℕ) → every p xs ≡ every p (drop i xs) → length xs ≤ i → true ≡ every p xs
  every_end xs i e h = sym (e ∙ rw (drop_of_length-le xs h))

  pub every_done : (xs : List A) (i : ℕ) {b : Bool} → every p xs ≡ (b && every p (drop i xs)) → length xs ≤ i → b ≡ every p xs
  every_done xs i {b} e h = sym (e ∙ rw (drop_of_length-le xs h) (and-true b))

  pub position_end : (xs : List A) (i : ℕ) → position p xs ≡ i + position p (drop i xs) → length xs ≤ i → i ≡ position p xs
  position_end xs i e h = sym (e ∙ rw (drop_of_length-le xs h) (add-zero i))

  -- the first element that passes stands within the list where there is one, else the place is the length
  pub exists_found : (xs : List A) → position p xs < length xs → exists p xs ≡ true
  exists_found [] h = absurd (omega arith)
  exists_found (x ∷ xs) h = go (p x) (exists_found xs) h
    where
      go : (b : Bool) → (position p xs < length xs → exists p xs ≡ true) → pick b 0 (suc (position p xs)) < suc (length xs)
          → (b || exists p xs) ≡ true
      go true r k = refl
      go false r k = r (omega arith)

  pub exists_missed : (xs : List A) → length xs ≤ position p xs → exists p xs ≡ false
  exists_missed [] h = refl
  exists_missed (x ∷ xs) h = go (p x) (exists_missed xs) h
    where
      go : (b : Bool) → (length xs ≤ position p xs → exists p xs ≡ false) → suc (length xs) ≤ pick b 0 (suc (position p xs))
          → (b || exists p xs) ≡ false
      go true r k = absurd (omega arith)
      go false r k = r (omega arith)

-- an element is put behind those that it does not come before, where it comes before all others
pub insert_here : {A : Type 0} (before : A → A → Bool) (x : A) (xs : List A) (i : ℕ) → All (λ y. before x y ≡ false) (take i xs)
    → All (λ y. before x y ≡ true) (drop i xs) → insert_by before x xs ≡ take i xs ++ (x ∷ drop i xs)
insert_here before x [] zero h k = refl
insert_here before x [] (suc i) h k = refl
insert_here before x (y ∷ ys) zero h k = rw k.0
insert_here {A} before x (y ∷ ys) (suc i) h k = rw h.0 (ap (λ (l : List A). y ∷ l) (insert_here before x ys i h.1 k))

pub insert_length : {A : Type 0} (before : A → A → Bool) (x : A) (xs : List A) → length (insert_by before x xs) ≡ suc (length xs)
insert_length before x [] = refl
insert_length before x (y ∷ ys) = go (before x y) (insert_length before x ys)
  where
    go : (b : Bool) → length (insert_by before x ys) ≡ suc (length ys) → length (pick b (x ∷ y ∷ ys) (y ∷ insert_by before x ys)) ≡ suc (suc (length ys))
    go true h = refl
    go false h = ap suc h

-- a property of each element

pub every_map : {A B : Type 0} (f : A → B) (p : B → Bool) (xs : List A) → every p (map f xs) ≡ every (λ x. p (f x)) xs
every_map f p [] = refl
every_map f p (x ∷ xs) = ap (λ (t : Bool). p (f x) && t) (every_map f p xs)

module _ {A : Type 0} where
  pub all_map : (P Q : A → Type 0) → ((x : A) → P x → Q x) → (xs : List A) → All P xs → All Q xs
  all_map P Q f [] h = tt
  all_map P Q f (x ∷ xs) h = (f x h.0, all_map P Q f xs h.1)

  pub all_made : {B : Type 0} (f : A → B) (P : A → Type 0) (Q : B → Type 0) → ((x : A) → P x → Q (f x)) → (xs : List A) → All P xs → All Q (map f xs)
  all_made f P Q h [] a = tt
  all_made f P Q h (x ∷ xs) a = (h x a.0, all_made f P Q h xs a.1)

  pub all_both : (P Q : A → Type 0) (xs : List A) → All P xs → All Q xs → All (λ x. P x × Q x) xs
  all_both P Q [] h k = tt
  all_both P Q (x ∷ xs) h k = ((h.0, k.0), all_both P Q xs h.1 k.1)

  -- what is kept has passed
  pub all_kept : (p : A → Bool) (P Q : A → Type 0) → ((x : A) → p x ≡ true → P x → Q x) → (xs : List A) → All P xs → All Q (keep p xs)
  all_kept p P Q f [] h = tt
  all_kept p P Q f (x ∷ xs) h = go (p x) refl (all_kept p P Q f xs h.1)
    where
      go : (b : Bool) → p x ≡ b → All Q (keep p xs) → All Q (pick b (x ∷ keep p xs) (keep p xs))
      go true e r = (f x e h.0, r)
      go false e r = r

  pub all_insert : (P : A → Type 0) (before : A → A → Bool) (x : A) (xs : List A) → P x → All P xs → All P (insert_by before x xs)
  all_insert P before x [] h k = (h, tt)
  all_insert P before x (y ∷ ys) h k = go (before x y) (all_insert P before x ys h k.1)
    where
      go : (b : Bool) → All P (insert_by before x ys) → All P (pick b (x ∷ y ∷ ys) (y ∷ insert_by before x ys))
      go true r = (h, k)
      go false r = (k.0, r)

  -- lists put together
  pub all_join : (P : A → Type 0) (xs ys : List A) → All P xs → All P ys → All P (xs ++ ys)
  all_join P [] ys h k = k
  all_join P (x ∷ xs) ys h k = (h.0, all_join P xs ys h.1 k)

  pub all_rest : (P : A → Type 0) (xs ys : List A) → All P (xs ++ ys) → All P ys
  all_rest P [] ys h = h
  all_rest P (x ∷ xs) ys h = all_rest P xs ys h.1

  pub all_at : (P : A → Type 0) (xs : List A) (i : ℕ) (d : A) → i < length xs → All P xs → P (get_or xs i d)
  all_at P [] i d h a = absurd (omega arith)
  all_at P (x ∷ xs) zero d h a = a.0
  all_at P (x ∷ xs) (suc i) d h a = all_at P xs i d (omega arith) a.1

  -- a property at each place
  pub all_of : (P : A → Type 0) (d : A) (xs : List A) → ((i : ℕ) → i < length xs → P (get_or xs i d)) → All P xs
  all_of P d [] f = tt
  all_of P d (x ∷ xs) f = (f 0 (omega arith), all_of P d xs (λ i h. f (suc i) (omega arith)))

  -- a property that the test tells
  pub all_every : (P : A → Type 0) (p : A → Bool) → ((x : A) → P x → p x ≡ true) → (xs : List A) → All P xs → every p xs ≡ true
  all_every P p f [] h = refl
  all_every P p f (x ∷ xs) h = and_yes (f x h.0) (all_every P p f xs h.1)

  pub every_all : (P : A → Type 0) (p : A → Bool) → ((x : A) → p x ≡ true → P x) → (xs : List A) → every p xs ≡ true → All P xs
  every_all P p f [] e = tt
  every_all P p f (x ∷ xs) e = (f x (and_fst (p x) (every p xs) e), every_all P p f xs (and_snd (p x) (every p xs) e))

  pub exists_none : (p : A → Bool) (xs : List A) → exists p xs ≡ false → All (λ x. p x ≡ false) xs
  exists_none p [] e = tt
  exists_none p (x ∷ xs) e = go (p x) refl (exists_none p xs) e
    where
      go : (b : Bool) → p x ≡ b → (exists p xs ≡ false → All (λ y. p y ≡ false) xs) → (b || exists p xs) ≡ false
          → (p x ≡ false) × All (λ y. p y ≡ false) xs
      go true h r k = false_true (sym k)
      go false h r k = (h, r k)

-- the elements that pass leave: where none does, the list stays as it is, and the count tells
module _ {A : Type 0} (p : A → Bool) where
  pub keep_all : (xs : List A) → All (λ x. p x ≡ false) xs → keep (λ x. not (p x)) xs ≡ xs
  keep_all [] h = refl
  keep_all (x ∷ xs) h = rw h.0 (ap (λ (l : List A). x ∷ l) (keep_all xs h.1))

  pub exists_fewer : (xs : List A) → (length (keep (λ x. not (p x)) xs) ≡ length xs → ⊥) → exists p xs ≡ true
  exists_fewer xs f = go (exists p xs) refl
    where
      go : (b : Bool) → exists p xs ≡ b → b ≡ true
      go true e = refl
      go false e = absurd (f (ap length (keep_all xs (exists_none p xs e))))

  pub exists_as_many : (xs : List A) → length (keep (λ x. not (p x)) xs) ≡ length xs → exists p xs ≡ false
  exists_as_many [] e = refl
  exists_as_many (x ∷ xs) e = go (p x) (exists_as_many xs) e
    where
      go : (b : Bool) → (length (keep (λ y. not (p y)) xs) ≡ length xs → exists p xs ≡ false)
          → length (pick (not b) (x ∷ keep (λ y. not (p y)) xs) (keep (λ y. not (p y)) xs)) ≡ suc (length xs) → (b || exists p xs) ≡ false
      go true r k = absurd (omega (arith, keep_length (λ y. not (p y)) xs))
      go false r k = r (omega arith)

pub map_append : {A B : Type 0} (f : A → B) (xs ys : List A) → map f (xs ++ ys) ≡ map f xs ++ map f ys
map_append f [] ys = refl
map_append f (x ∷ xs) ys = ap (λ t. f x ∷ t) (map_append f xs ys)

-- what a function makes of each element, one after the other

module _ {A B : Type 0} (f : A → List B) where
  pub concat_append : (xs ys : List A) → concat_map f (xs ++ ys) ≡ concat_map f xs ++ concat_map f ys
  concat_append [] ys = refl
  concat_append (x ∷ xs) ys = ap (λ (l : List B). f x ++ l) (concat_append xs ys) ∙ sym (append_assoc (f x) (concat_map f xs) (concat_map f ys))

  pub concat_snoc : (xs : List A) (x : A) → concat_map f (xs ++ (x ∷ [])) ≡ concat_map f xs ++ f x
  concat_snoc xs x = concat_append xs (x ∷ []) ∙ ap (λ (l : List B). concat_map f xs ++ l) (append-nil (f x))

  -- one element more
  pub concat_next : (xs : List A) (i : ℕ) (d : A) → i < length xs → concat_map f (take (i + 1) xs) ≡ concat_map f (take i xs) ++ f (get_or xs i d)
  concat_next xs i d h = rw (add-one, take-suc xs i d h) (concat_snoc (take i xs) (get_or xs i d))

  -- w of each element
  pub concat_length : (w : ℕ) → ((x : A) → length (f x) ≡ w) → (xs : List A) → length (concat_map f xs) ≡ length xs * w
  concat_length w h [] = sym (zero-mul w)
  concat_length w h (x ∷ xs) = rw (length-append, h, concat_length w h xs, suc-mul) (omega arith)

  -- what is made of an element below n is within what is made of the first n
  pub concat_within : (xs : List A) (i n : ℕ) (d : A) → i < n → n ≤ length xs
      → length (concat_map f (take i xs)) + length (f (get_or xs i d)) ≤ length (concat_map f (take n xs))
  concat_within [] i n d h k = absurd (omega arith)
  concat_within (x ∷ xs) i zero d h k = absurd (omega arith)
  concat_within (x ∷ xs) zero (suc n) d h k = rw length-append (omega arith)
  concat_within (x ∷ xs) (suc i) (suc n) d h k =
      omega (
        arith,
        concat_within xs i n d (omega arith) (omega arith),
        length-append (f x) (concat_map f (take i xs)),
        length-append (f x) (concat_map f (take n xs)),
      )

  -- at most w of each element: of the first i elements, and of all
  pub concat_few : (w : ℕ) (xs : List A) → All (λ x. length (f x) ≤ w) xs → (i : ℕ) → length (concat_map f (take i xs)) ≤ i * w
  concat_few w xs h zero = omega arith
  concat_few w [] h (suc i) = omega arith
  concat_few w (x ∷ xs) h (suc i) = rw length-append (omega (arith, h.0, concat_few w xs h.1 i))

pub concat_most : {A B : Type 0} (P : A → Type 0) (f : A → List B) (w : ℕ) → ((x : A) → P x → length (f x) ≤ w) → (xs : List A) → All P xs
    → length (concat_map f xs) ≤ length xs * w
concat_most P f w h [] a = omega arith
concat_most P f w h (x ∷ xs) a = rw (length-append, suc-mul) (omega (arith, h x a.0, concat_most P f w h xs a.1))

-- a property of each number of a list holds of its members
pub member_all : (P : ℕ → Type 0) (n : ℕ) (xs : List ℕ) → All P xs → member n xs ≡ true → P n
member_all P n [] h e = false_true e
member_all P n (x ∷ xs) h e = go (eqb n x) refl (member_all P n xs h.1) e
  where
    go : (b : Bool) → eqb n x ≡ b → (member n xs ≡ true → P n) → (b || member n xs) ≡ true → P n
    go true f r k = subst P (sym (eqb-true n x f)) h.0
    go false f r k = r k

-- a member is unlike a number that is no member
pub other_member : (n r : ℕ) (xs : List ℕ) → member n xs ≡ true → member r xs ≡ false → eqb n r ≡ false
other_member n r xs h k = go (eqb n r) refl
  where
    go : (b : Bool) → eqb n r ≡ b → b ≡ false
    go true e = false_true (sym k ∙ ap (λ (x : ℕ). member x xs) (sym (eqb-true n r e)) ∙ h)
    go false e = refl

-- the members of a list that are kept
pub member_kept : (q : ℕ → Bool) (n : ℕ) (xs : List ℕ) → member n (keep q xs) ≡ (member n xs && q n)
member_kept q n [] = refl
member_kept q n (x ∷ xs) = go (q x) (eqb n x) refl refl (member_kept q n xs)
  where
    same : {b : Bool} → q x ≡ b → eqb n x ≡ true → q n ≡ b
    same f e = ap q (eqb-true n x e) ∙ f

    go : (b s : Bool) → q x ≡ b → eqb n x ≡ s → member n (keep q xs) ≡ (member n xs && q n)
        → member n (pick b (x ∷ keep q xs) (keep q xs)) ≡ ((s || member n xs) && q n)
    go true true f e h = rw (e, same f e)
    go true false f e h = rw e h
    go false true f e h = h ∙ rw (same f e) (and-false (member n xs))
    go false false f e h = h

-- an element that passes, with what is known of each
pub exists_one : {A : Type 0} (p : A → Bool) (P : A → Type 0) (xs : List A) → All P xs → exists p xs ≡ true → (x : A) × (p x ≡ true) × P x
exists_one p P [] h e = false_true e
exists_one {A} p P (x ∷ xs) h e = go (p x) refl (exists_one p P xs h.1) e
  where
    go : (b : Bool) → p x ≡ b → (exists p xs ≡ true → (y : A) × (p y ≡ true) × P y) → (b || exists p xs) ≡ true → (y : A) × (p y ≡ true) × P y
    go true f r k = (x, f, h.0)
    go false f r k = r k

-- a list without repetitions: it has at most as many numbers as any list that has them all
abbrev pub Distinct : List ℕ → Type 0
Distinct [] = Unit {0}
Distinct (x ∷ xs) = (member x xs ≡ false) × Distinct xs

less_one : (x : ℕ) (ys : List ℕ) → member x ys ≡ true → length (keep (λ y. not (eqb x y)) ys) < length ys
less_one x [] e = false_true e
less_one x (y ∷ ys) e = go (eqb x y) (less_one x ys) e
  where
    go : (b : Bool) → (member x ys ≡ true → length (keep (λ y. not (eqb x y)) ys) < length ys) → (b || member x ys) ≡ true
        → length (pick (not b) (y ∷ keep (λ y. not (eqb x y)) ys) (keep (λ y. not (eqb x y)) ys)) < suc (length ys)
    go true h k = omega (arith, keep_length (λ y. not (eqb x y)) ys)
    go false h k = omega (arith, h k)

pub distinct_length : (xs ys : List ℕ) → Distinct xs → All (λ x. member x ys ≡ true) xs → length xs ≤ length ys
distinct_length [] ys d h = omega arith
distinct_length (x ∷ xs) ys d h =
    omega (
      arith,
      less_one x ys h.0,
      distinct_length xs (keep other ys) d.1
          (all_map (λ y. (member y ys ≡ true) × (eqb x y ≡ false)) (λ y. member y (keep other ys) ≡ true)
          (λ y t. member_kept other y ys ∙ and_yes t.0 (ap not t.1)) xs
          (all_both (λ y. member y ys ≡ true) (λ y. eqb x y ≡ false) xs h.1 (exists_none (eqb x) xs d.0))),
    )
  where
    other : ℕ → Bool
    other y = not (eqb x y)

-- the numbers from n on, by place
pub count_length : (n k : ℕ) → length (count_from n k) ≡ k
count_length n zero = refl
count_length n (suc k) = ap suc (count_length (suc n) k)

pub count_at : (n k i : ℕ) → i < k → get_or (count_from n k) i 0 ≡ n + i
count_at n zero i h = absurd (omega arith)
count_at n (suc k) zero h = omega arith
count_at n (suc k) (suc i) h = count_at (suc n) k i (omega arith) ∙ omega arith

-- the members of a count from a on
pub member_counted : (n a k : ℕ) → a ≤ n → member n (count_from a k) ≡ ltb n (a + k)
member_counted n a zero h = sym (le-ltb n (a + 0) (omega arith))
member_counted n a (suc k) h = go (eqb n a) refl (member_counted n (suc a) k)
  where
    go : (b : Bool) → eqb n a ≡ b → (suc a ≤ n → member n (count_from (suc a) k) ≡ ltb n (suc a + k))
        → (b || member n (count_from (suc a) k)) ≡ ltb n (a + suc k)
    go true e r = sym (lt-ltb n (a + suc k) (omega (arith, eqb-true n a e)))
    go false e r = r (omega (arith, eqb-false n a e)) ∙ ap (ltb n) (omega arith)

pub member_count : (k a n : ℕ) → a ≤ n → n < a + k → member n (count_from a k) ≡ true
member_count k a n l h = member_counted n a k l ∙ lt-ltb n (a + k) h
