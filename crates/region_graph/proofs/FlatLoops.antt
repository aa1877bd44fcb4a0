-- Lists of flat elements: the loops that take one element after the other, for regions, and for bundles and connections alike.
use mathlib.Core.Path.{◌≡◌, refl, sym, ap, ◌∙◌, subst}
use mathlib.Core.Bool.{Bool, true, false, and-true}
use mathlib.Core.List.{List, [], ◌∷◌, ◌++◌, map, append-nil, append_assoc}
use Prim.Native.Nat.{ℕ, suc, ◌+◌, ◌%◌, ◌≤◌, ◌<◌}
use native.Mathlib.Numerals.{add-one}
use native.Mathlib.Nat.{mod-eq_of_lt}
use native.Mathlib.Omega.{arith}
use Rattle.std.specs.Prelude.{Option, Some, None}
use Rattle.std.specs.Bool.{then_some}
use Rattle.std.proofs.Math.Nat.{zero-mod, add-mod_left}
use Rattle.std.proofs.lemmas.List.{drop_at, nil_from_length}
use lib.Bits.{bit_or}
use lib.Dec.{eqb, ltb, leb}
use lib.ListN.{length, get_or, take, drop, set, length-append, length-drop, length-map}
use lib.Seq.{take-suc, take_all, take_at, drop-cons, set_at, append_snoc}
use borrow.Author.Tests.{ltb-true, ltb-false, leb-true, le-leb}
use Rattle.region_graph.specs.Size.{regions}
use Rattle.region_graph.specs.Lists.{All, ascends, member}
use Rattle.region_graph.specs.Sets.{singleton, set_of}
use Rattle.region_graph.specs.Model.{Sorted}
use Rattle.region_graph.specs.Flat.{Flat}
use Rattle.region_graph.specs.Decoded.{Decoded, GoodRegions, Put, Kind, KindLaws, RowsPut}
use Rattle.region_graph.proofs.Lists.{false_true, and_fst, eqb_sym, all_join, all_rest, all_at, map_append}
use Rattle.region_graph.proofs.Ascending.{ascends_append}
use Rattle.region_graph.proofs.Bits.{set_none}
use Rattle.region_graph.proofs.Legal.{below_sorted}
use Rattle.region_graph.proofs.Views.{set_took}
use Rattle.region_graph.proofs.FlatLaws.{Found, decoded_none, decoded_some}

-- regions

-- the first i numbers are regions, and the set has them
pub record Regions (list : List ℕ) (x i : ℕ) : Type 0 where
  pub inside : i ≤ length list
  pub each : All (λ r. r < regions) (take i list)
  pub those : x ≡ set_of (λ n. member n (take i list))

module _ (list : List ℕ) where
  pub regions_none : Regions list 0 0
  regions_none = record { inside = omega arith; each = tt; those = sym set_none }

  module _ {x i : ℕ} (s : Regions list x i) where
    pub regions_next : i < length list → true ≡ ltb (get_or list i 0) regions → Regions list (bit_or x (singleton (get_or list i 0))) (i + 1)
    regions_next l t = record {
      inside = omega arith;
      each =
          rw (add-one i, take-suc list i 0 l)
          (all_join (λ r. r < regions) (take i list) (get_or list i 0 ∷ []) s.each (ltb-true (get_or list i 0) regions (sym t), tt));
      those = rw s.those (set_took (λ r n. eqb n r) list i 0 l (get_or list i 0) (λ n. eqb_sym n (get_or list i 0)));
    }

    pub regions_stop : i < length list → false ≡ ltb (get_or list i 0) regions
        → Decoded (λ rs. set_of (λ n. member n rs)) GoodRegions (λ rs. rs ≡ list) None
    regions_stop l t =
        Decoded.none (λ rs g e. omega (
          arith,
          ltb-false (get_or list i 0) regions (sym t),
          all_at (λ r. r < regions) list i 0 l (subst (All (λ r. r < regions)) e g.each),
        )) refl

    pub regions_end : {ok : Bool} → length list ≤ i → ok ≡ ascends ltb list
        → Decoded (λ rs. set_of (λ n. member n rs)) GoodRegions (λ rs. rs ≡ list) (then_some ok x)
    regions_end {ok} l e = go ok e
      where
        all : take i list ≡ list
        all = take_all i list l

        go : (b : Bool) → b ≡ ascends ltb list → Decoded (λ rs. set_of (λ n. member n rs)) GoodRegions (λ rs. rs ≡ list) (then_some b x)
        go true t =
            Decoded.found list (below_sorted (subst (All (λ r. r < regions)) all s.each) (sym t)) refl
            (ap Some (s.those ∙ ap (λ rs. set_of (λ n. member n rs)) all))
        go false t = Decoded.none (λ rs g q. false_true (t ∙ ap (ascends ltb) (sym q) ∙ g.ascend)) refl

-- bundles, or connections

module _ {B : Type 0} {k : Kind B} {width : ℕ} {key : B → ℕ} (law : KindLaws width key k) where
  -- numbers are those of one list at most
  pub flat_same : (rows : List ℕ) (xs ys : List k.Element) → All k.Good xs → All k.Good ys
      → Flat width k.Is rows xs → Flat width k.Is rows ys → xs ≡ ys
  flat_same rows [] [] g l h i = refl
  flat_same rows [] (y ∷ ys) g l h i = absurd (omega (arith, law.wide, ap length h, i.0))
  flat_same rows (x ∷ xs) [] g l h i = absurd (omega (arith, law.wide, ap length i, h.0))
  flat_same rows (x ∷ xs) (y ∷ ys) g l h i =
      let e : x ≡ y = law.same (take width rows) x y g.0 l.0 h.1 i.1 in
      let f : xs ≡ ys = flat_same (drop width rows) xs ys g.1 l.1 h.2 i.2 in
      λ j. e j ∷ f j

  -- a list's numbers are whole rows
  pub flat_whole : (rows : List ℕ) (xs : List k.Element) → Flat width k.Is rows xs → length rows % width ≡ 0
  flat_whole rows [] h = rw h (zero-mod width)
  flat_whole rows (x ∷ xs) h =
      let n : length rows ≡ width + length (drop width rows) = omega (arith, length-drop width rows, h.0) in
      rw n (add-mod_left width (length (drop width rows)) ∙ flat_whole (drop width rows) xs h.2)

-- what one element more puts
put_more : {A B : Type 0} (f : A → B) (xs : List A) (x : A) (old : List B) → length xs < length old
    → set (map f xs ++ drop (length xs) old) (length xs) (f x) ≡ map f (xs ++ (x ∷ [])) ++ drop (length (xs ++ (x ∷ []))) old
put_more f xs x old l =
    let n = length xs in
    rw (drop-cons old n (f x) l, map_append f xs (x ∷ []), length-append xs (x ∷ []), add-one n)
    (set_at (map f xs) (get_or old n (f x)) (drop (suc n) old) (f x) n (length-map xs f) ∙ sym (append_snoc (map f xs) (f x) (drop (suc n) old)))

-- what follows xs in a list
pub record Rest {A : Type 0} (width : ℕ) (Is : List ℕ → A → Type 0) (left : List ℕ) (xs zs : List A) : Type 0 where
  pub ys : List A
  pub split : zs ≡ xs ++ ys
  pub flat : Flat width Is left ys

-- the first i elements are put, and the numbers `left` follow: one more must have at least the key `least`, and every list of elements begins
-- with them
pub record Taken {B : Type 0} (k : Kind B) (width : ℕ) (key : B → ℕ) (rows : List ℕ) (old new : List B) (least i : ℕ) (left : List ℕ) : Type 0 where
  pub xs : List k.Element
  pub whole : length left % width ≡ 0
  pub counted : i ≡ length xs
  pub room : length xs ≤ length old
  pub shape : new ≡ map k.put xs ++ drop (length xs) old
  pub each : All k.Good xs
  pub ascend : ascends k.before xs ≡ true
  pub next : (y : k.Element) → k.Good y → ascends k.before (xs ++ (y ∷ [])) ≡ leb least (key (k.put y))
  pub onward : (ys : List k.Element) → Flat width k.Is left ys → Flat width k.Is rows (xs ++ ys)
  pub only : (zs : List k.Element) → All k.Good zs → Flat width k.Is rows zs → Rest width k.Is left xs zs

module _ {B : Type 0} {k : Kind B} {width : ℕ} {key : B → ℕ} (law : KindLaws width key k) (rows : List ℕ) (old : List B) where
  pub taken_none : length rows % width ≡ 0 → Taken k width key rows old old 0 0 rows
  taken_none w = record {
    xs = [];
    whole = w;
    counted = refl;
    room = omega arith;
    shape = refl;
    each = tt;
    ascend = refl;
    next = λ y g. sym (le-leb 0 (key (k.put y)) (omega arith));
    onward = λ ys h. h;
    only = λ zs g h. record { ys = zs; split = refl; flat = h };
  }

  -- numbers that are no whole rows
  pub rows_broken : {o : Option ℕ} {new : List B} → (length rows % width ≡ 0 → ⊥) → o ≡ None → RowsPut k width rows old o new
  rows_broken n e = Put.none (λ xs g h. n (flat_whole law rows xs h)) e

  module _ {new : List B} {least i : ℕ} {left : List ℕ} (t : Taken k width key rows old new least i left) where
    -- all rows are taken
    pub taken_end : {o : Option ℕ} → length left < width → o ≡ Some i → RowsPut k width rows old o new
    taken_end l e =
        let n : length left ≡ 0 = sym (mod-eq_of_lt l) ∙ t.whole in
        Put.found t.xs (record { few = t.room; each = t.each; ascend = t.ascend })
        (subst (Flat width k.Is rows) (append-nil t.xs) (t.onward [] (nil_from_length left n))) (e ∙ ap Some t.counted) t.shape

    module _ (row rest : List ℕ) (here : left ≡ row ++ rest) (long : length row ≡ width) where
      first : take width left ≡ row
      first = rw here (take_at row rest width long)

      after : drop width left ≡ rest
      after = rw here (drop_at row rest width long)

      -- no good element can be the next
      stuck : {o : Option ℕ} → ((y : k.Element) → k.Good y → k.Is row y → least ≤ key (k.put y) → i < length old → ⊥)
          → o ≡ None → RowsPut k width rows old o new
      stuck f e = Put.none (λ zs g h. let q = t.only zs g.each h in refute zs g q.ys q.split q.flat) e
        where
          refute : (zs : List k.Element) → Sorted k.before k.Good (length old) zs → (ys : List k.Element) → zs ≡ t.xs ++ ys → Flat width k.Is left ys → ⊥
          refute zs g [] s h = omega (arith, law.wide, long, length-append row rest, sym (ap length here) ∙ ap length h)
          refute zs g (y ∷ ys) s h =
              let gy : k.Good y = (all_rest k.Good t.xs (y ∷ ys) (subst (All k.Good) s g.each)).0 in
              let n : length zs ≡ length t.xs + suc (length ys) = ap length s ∙ length-append t.xs (y ∷ ys) in
              let a : ascends k.before (t.xs ++ (y ∷ [])) ≡ true
              = and_fst _ (ascends k.before (y ∷ ys)) (sym (ascends_append k.before t.xs y ys) ∙ ap (ascends k.before) (sym s) ∙ g.ascend) in
              f y gy (subst (λ (r : List ℕ). k.Is r y) first h.1)
              (leb-true least (key (k.put y)) (sym (t.next y gy) ∙ a)) (omega (arith, n, g.few, t.counted))

      pub stuck_bad : {o : Option ℕ} → Decoded k.put k.Good (k.Is row) None → o ≡ None → RowsPut k width rows old o new
      stuck_bad d e = stuck (λ y g h m r. decoded_none d y g h) e

      module _ {b : B} (d : Decoded k.put k.Good (k.Is row) (Some b)) where
        found : Found k.put k.Good (k.Is row) b
        found = decoded_some d

        pub stuck_low : {o : Option ℕ} → key b < least → o ≡ None → RowsPut k width rows old o new
        stuck_low l e =
            stuck (λ y g h m r. omega (arith, l, m, ap key found.stored, ap (λ (z : k.Element). key (k.put z)) (law.same row y found.value g found.good h found.is))) e

        -- one element more
        pub taken_more : least ≤ key b → (i ≡ length old → ⊥) → Taken k width key rows old (set new i b) (key b + 1) (i + 1) rest
        taken_more l r = record {
          xs = t.xs ++ (x ∷ []);
          whole = sym (add-mod_left width (length rest)) ∙ ap (λ (n : ℕ). n % width) counts ∙ t.whole;
          counted = rw (length-append t.xs (x ∷ [])) (ap (λ (n : ℕ). n + 1) t.counted);
          room = rw (length-append t.xs (x ∷ [])) (omega (arith, t.counted, left_place));
          shape = shaped;
          each = all_join k.Good t.xs (x ∷ []) t.each (g, tt);
          ascend = joins;
          next = later;
          onward = λ ys f. rw append_assoc (t.onward (x ∷ ys) (wide, subst (λ (s : List ℕ). k.Is s x) (sym first) h, rw after f));
          only = λ zs a f. follows zs a (t.only zs a f);
        }
          where
            x : k.Element
            x = found.value

            g : k.Good x
            g = found.good

            h : k.Is row x
            h = found.is

            e : b ≡ k.put x
            e = found.stored

            left_place : i < length old
            left_place = omega (arith, t.counted, t.room, r)

            counts : width + length rest ≡ length left
            counts = omega (arith, long, length-append row rest, ap length here)

            wide : width ≤ length left
            wide = omega (arith, counts)

            shaped : set new i b ≡ map k.put (t.xs ++ (x ∷ [])) ++ drop (length (t.xs ++ (x ∷ []))) old
            shaped = (λ j. set (t.shape j) (t.counted j) (e j)) ∙ put_more k.put t.xs x old (omega (arith, t.counted, left_place))

            joins : ascends k.before (t.xs ++ (x ∷ [])) ≡ true
            joins = t.next x g ∙ le-leb least (key (k.put x)) (omega (arith, ap key e))

            later : (y : k.Element) → k.Good y → ascends k.before ((t.xs ++ (x ∷ [])) ++ (y ∷ [])) ≡ leb (key b + 1) (key (k.put y))
            later y gy =
                let n : suc (key (k.put x)) ≡ key b + 1 = omega (arith, ap key e) in
                rw append_assoc
                (ascends_append k.before t.xs x (y ∷ [])
                ∙ rw (joins, law.keyed x y g gy) (and-true _ ∙ ap (λ (m : ℕ). leb m (key (k.put y))) n))

            follows : (zs : List k.Element) → All k.Good zs → Rest width k.Is left t.xs zs → Rest width k.Is rest (t.xs ++ (x ∷ [])) zs
            follows zs a q = go q.ys q.split q.flat
              where
                go : (ys : List k.Element) → zs ≡ t.xs ++ ys → Flat width k.Is left ys → Rest width k.Is rest (t.xs ++ (x ∷ [])) zs
                go [] s f = absurd (omega (arith, wide, ap length f, law.wide))
                go (y ∷ ys) s f =
                    let gy : k.Good y = (all_rest k.Good t.xs (y ∷ ys) (subst (All k.Good) s a)).0 in
                    let p : y ≡ x = law.same row y x gy g (subst (λ (r : List ℕ). k.Is r y) first f.1) h in
                    record {
                      ys = ys;
                      split = s ∙ ap (λ (z : k.Element). t.xs ++ (z ∷ ys)) p ∙ sym (append_assoc t.xs (x ∷ []) ys);
                      flat = subst (λ (s : List ℕ). Flat width k.Is s ys) after f.2;
                    }
