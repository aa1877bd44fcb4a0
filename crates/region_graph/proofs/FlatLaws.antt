-- Graphs as flat lists of numbers: what is found at a place and in a row.
use mathlib.Core.Path.{◌≡◌, refl, sym, ap, ap₂, ◌∙◌, subst}
use mathlib.Core.Bool.{Bool, true, false, not, ◌&&◌, and-true}
use mathlib.Core.List.{List, [], ◌∷◌, map}
use Prim.Native.Nat.{ℕ, ◌+◌, ◌*◌, ◌^◌, ◌≤◌, ◌<◌}
use native.Mathlib.Omega.{arith}
use Rattle.std.specs.Prelude.{Option, Some, None, Result, Ok, Err}
use Rattle.std.specs.Result.{OkIff, result_ok}
use lib.Dec.{eqb, ltb}
use Rattle.std.specs.Bool.{then_some}
use Rattle.std.proofs.lemmas.Option.{none-some, same_Some}
use lib.ListN.{length, get_or, take, drop, set, replicate, length-map}
use lib.Seq.{take_at}
use borrow.Author.Tests.{eqb-true, eq-eqb, lt-ltb}
use Rattle.region_graph.specs.Size.{regions, most_provided, most_listed}
use Rattle.region_graph.specs.Lists.{All, every, ascends, member, count_from}
use Rattle.region_graph.specs.Sets.{has, members}
use Rattle.region_graph.specs.Model.{Bundle, Part, Connection, packages, entries, package_before, entry_before, ordered}
use Rattle.region_graph.specs.Model.{Word, LegalEntry, Sorted, Numbered, SortedPart, LegalBundle, LegalConnection}
use Rattle.region_graph.specs.Record.{Numbers, Provided, store_numbers, store_provided, store_part, store_bundle, store_connection}
use Rattle.region_graph.specs.Flat.{entry_code, map_part, FlatPart, bundle_width, connection_width}
use Rattle.region_graph.specs.Decoded.{Decoded, Put, is_word, head_from, tail_from, HeadsPut, FlatList, CodesRead, FlatBundle, FlatConnection}
use Rattle.region_graph.specs.Decoded.{part_count, put_part, ListPut, PartPut, PackagesDecoded, EntriesDecoded, PackagePartDecoded}
use Rattle.region_graph.specs.Decoded.{KindLaws, bundle_kind, connection_kind}
use Rattle.region_graph.specs.Places.{put_into}
use Rattle.region_graph.specs.declared.packages.Packages.{Packages}
use Rattle.region_graph.specs.declared.packages.Entries.{Entries}
use Rattle.region_graph.specs.declared.bundles.StoredBundle.{StoredBundle}
use Rattle.region_graph.specs.declared.connections.StoredConnection.{StoredConnection}
use Rattle.region_graph.proofs.Ascending.{connection_order}
use Rattle.region_graph.proofs.Lists.{false_true, and_yes, and_fst, and_snd, all_kept, every_also, every_done, member_all}
use Rattle.region_graph.proofs.Arrays.{Making, making_none, making_next, making_end}
use Rattle.region_graph.proofs.Storing.{all_counted, has_member, map_id, filled_put, filled_numbers, filled_provided}
use Rattle.region_graph.proofs.Codes.{Coding, words, codes_again, codes_back, codes_good, codes_words, codes_tested}
use Rattle.region_graph.proofs.Codes.{number_coded, package_coded, package_out, entry_coded}
use Rattle.region_graph.proofs.Codes.{packages_columns, packages_there, entries_columns, entries_there}

-- the heads of codes, put into places up to i

abbrev word_head : ℕ → ℕ → Bool
word_head unit c = is_word (head_from unit c)

pub record HeadsTo (unit : ℕ) (codes old new : List ℕ) (i : ℕ) : Type 0 where
  pub making : Making (head_from unit) codes old new i
  pub fit : every (word_head unit) codes ≡ every (word_head unit) (drop i codes)

module _ (unit : ℕ) (codes : List ℕ) {old : List ℕ} where
  pub heads_none : length codes ≤ length old → HeadsTo unit codes old old 0
  heads_none l = record { making = making_none l; fit = refl }

  module _ {new : List ℕ} {i : ℕ} (s : HeadsTo unit codes old new i) where
    pub heads_next : i < length codes → (let h = head_from unit (get_or codes i 0) in
        h < 2 ^ 32 → HeadsTo unit codes old (set new i h) (i + 1))
    heads_next l w = record {
      making = making_next s.making 0 l refl;
      fit = every_also (word_head unit) codes i 0 l true s.fit ∙ rw (lt-ltb (head_from unit (get_or codes i 0)) (2 ^ 32) w);
    }

    pub heads_end : length codes ≤ i → HeadsPut unit codes old (Some tt) new
    heads_end l = record { fit = rw (sym (every_done (word_head unit) codes i {b = true} s.fit l)); those = λ e. making_end s.making l }

-- a value that is there, or not, by a test
module _ {A : Type 0} (x : A) where
  none_test : (b : Bool) → None ≡ then_some b x → b ≡ false
  none_test true q = absurd (none-some x q)
  none_test false q = refl

  some_test : (b : Bool) {y : A} → Some y ≡ then_some b x → (b ≡ true) × (y ≡ x)
  some_test true q = (refl, same_Some _ x q)
  some_test false q = absurd (none-some _ (sym q))

pub list_same : (row : List ℕ) (at : ℕ) (xs ys : List ℕ) → FlatList row at xs → FlatList row at ys → xs ≡ ys
list_same row at xs ys h k = sym h.1 ∙ ap (λ (n : ℕ). take n (drop (at + 1) row)) (sym h.0 ∙ k.0) ∙ k.1

-- a list of elements by their codes

module _ {A : Type 0} (k : Coding A) (row : List ℕ) (at : ℕ) where
  abbrev Listed : List A → Type 0
  Listed xs = FlatList row at (map k.code xs)

  pub coded_same : (xs ys : List A) → All k.Good xs → All k.Good ys → Listed xs → Listed ys → xs ≡ ys
  coded_same xs ys g l h i =
      sym (codes_back k xs g) ∙ ap (map k.out) (list_same row at (map k.code xs) (map k.code ys) h i) ∙ codes_back k ys l

  module _ (most : ℕ) where
    -- a count past the limit
    pub coded_long : most < get_or row at 0 → (xs : List A) → Sorted k.before k.Good most xs → Listed xs → ⊥
    coded_long l xs g h = omega (arith, g.few, h.0, l, length-map xs k.code)

    module _ {codes : List ℕ} (r : CodesRead row at most codes) where
      -- the elements of the codes are in order, and each passes the test
      abbrev right : List A → Bool
      right xs = ascends k.before xs && every k.test xs

      is_out : (xs : List A) → All k.Good xs → Listed xs → map k.out codes ≡ xs
      is_out xs g h = ap (map k.out) (list_same row at codes (map k.code xs) r.there h) ∙ codes_back k xs g

      -- a head of more than 32 bits
      module _ {old new : List ℕ} (f : HeadsPut k.unit codes old None new) where
        pub coded_wide : (xs : List A) → Sorted k.before k.Good most xs → Listed xs → ⊥
        coded_wide xs g h =
            false_true (sym (none_test tt _ f.fit) ∙ ap (words k) (list_same row at codes (map k.code xs) r.there h) ∙ codes_words k xs g.each)

        pub coded_none : {B : Type 0} {store : List A → B} {o : Option B} → o ≡ None → Decoded store (Sorted k.before k.Good most) Listed o
        coded_none e = Decoded.none coded_wide e

      -- elements that are not right
      pub coded_wrong : right (map k.out codes) ≡ false → (xs : List A) → Sorted k.before k.Good most xs → Listed xs → ⊥
      coded_wrong w xs g h =
          false_true (sym w ∙ ap right (is_out xs g.each h) ∙ and_yes g.ascend (codes_tested k xs g.each))

      pub coded_listed : Listed (map k.out codes)
      coded_listed = subst (FlatList row at) (sym (codes_again k codes)) r.there

      pub coded_sorted : words k codes ≡ true → right (map k.out codes) ≡ true → Sorted k.before k.Good most (map k.out codes)
      coded_sorted w t =
          let xs = map k.out codes in
          record {
            few = omega (arith, r.few, length-map codes k.out);
            each = codes_good k codes w (and_snd (ascends k.before xs) (every k.test xs) t);
            ascend = and_fst (ascends k.before xs) (every k.test xs) t;
          }

      -- the last test decides
      pub coded_found : {B : Type 0} {store : List A → B} {b : B} {t : Bool} → words k codes ≡ true → t ≡ right (map k.out codes)
          → b ≡ store (map k.out codes) → Decoded store (Sorted k.before k.Good most) Listed (then_some t b)
      coded_found {t = true} w e s = Decoded.found (map k.out codes) (coded_sorted w (sym e)) coded_listed (ap Some s)
      coded_found {t = false} w e s = Decoded.none (coded_wrong (sym e)) refl

-- a test that every element passes adds nothing
untested : {A : Type 0} (b : Bool) (xs : List A) → b ≡ (b && every (λ x. true) xs)
untested b [] = sym (and-true b)
untested b (x ∷ xs) = untested b xs

module _ (row : List ℕ) (at : ℕ) where
  -- numbers
  module _ (old : List ℕ) {codes new : List ℕ} (r : CodesRead row at (length old) codes) where
    pub list_wide : {o : Option ℕ} → HeadsPut 1 codes old None new → o ≡ None → ListPut old row at o new
    list_wide f e =
        Put.none (λ ns g h. coded_wide number_coded row at (length old) r f ns g (subst (FlatList row at) (sym (map_id ns)) h)) e

    pub list_found : {t : Bool} → HeadsPut 1 codes old (Some tt) new → t ≡ ascends ltb (take (length codes) new)
        → ListPut old row at (then_some t (length codes)) new
    list_found {t} f a = go t (a ∙ ap (ascends ltb) first)
      where
        same : map (head_from 1) codes ≡ codes
        same = sym (map_id (map (head_from 1) codes)) ∙ codes_again number_coded codes

        put : new ≡ put_into old codes
        put = f.those refl ∙ ap (put_into old) same

        first : take (length codes) new ≡ codes
        first = ap (take (length codes)) put ∙ take_at codes (drop (length codes) old) (length codes) refl

        fits : All Word codes
        fits = subst (All Word) same (codes_good number_coded codes (some_test tt _ f.fit).0 (sym (untested true (map (head_from 1) codes))))

        go : (t : Bool) → t ≡ ascends ltb codes → ListPut old row at (then_some t (length codes)) new
        go true q = Put.found codes (record { few = r.few; each = fits; ascend = sym q }) r.there refl put
        go false q = Put.none (λ ns g h. false_true (q ∙ ap (ascends ltb) (list_same row at codes ns r.there h) ∙ g.ascend)) refl

  -- packages
  module _ {codes numbers : List ℕ} (r : CodesRead row at most_provided codes) where
    pub packages_found : {versions : List ℕ} {t : Bool} → HeadsPut (2 ^ 16) codes (replicate most_provided 0) (Some tt) numbers
        → versions ≡ put_into (replicate most_provided 0) (map (tail_from 1) codes)
        → t ≡ ascends package_before (packages (take (length codes) numbers) (take (length codes) versions))
        → PackagesDecoded row at (then_some t (record { count = length codes; numbers = numbers; versions = versions }))
    packages_found f v a =
        coded_found package_coded row at most_provided r (some_test tt _ f.fit).0
        (a ∙ ap (ascends package_before) (packages_there codes refl r.few (f.those refl) v) ∙ untested _ (map package_out codes))
        (packages_columns codes refl r.few (f.those refl) v)

  -- entries
  module _ {codes numbers : List ℕ} (r : CodesRead row at most_listed codes) where
    pub entries_found : {lowest highest : List ℕ} {s t : Bool} → HeadsPut (2 ^ 32) codes (replicate most_listed 0) (Some tt) numbers
        → lowest ≡ put_into (replicate most_listed 0) (map (tail_from (2 ^ 16)) codes)
        → highest ≡ put_into (replicate most_listed 0) (map (tail_from 1) codes)
        → s ≡ ascends entry_before (entries (take (length codes) numbers) (take (length codes) lowest) (take (length codes) highest))
        → t ≡ every ordered (entries (take (length codes) numbers) (take (length codes) lowest) (take (length codes) highest))
        → EntriesDecoded row at (then_some (s && t) (record { count = length codes; numbers = numbers; lowest = lowest; highest = highest }))
    entries_found f v w a b =
        let there = entries_there codes refl r.few (f.those refl) v w in
        coded_found entry_coded row at most_listed r (some_test tt _ f.fit).0
        (ap₂ ◌&&◌ (a ∙ ap (ascends entry_before) there) (b ∙ ap (every ordered) there))
        (entries_columns codes refl r.few (f.those refl) v w)

-- a part: what is listed, or everything

module _ {A : Type 0} (before : A → A → Bool) (Good : A → Type 0) (Is : Part A → Type 0) where
  module _ (n : Is Part.everything → ⊥) where
    no_part : ((xs : List A) → Sorted before Good most_listed xs → Is (Part.listed xs) → ⊥) → (p : Part A) → SortedPart before Good p → Is p → ⊥
    no_part f (Part.listed xs) g h = f xs g h
    no_part f Part.everything g h = n h

    pub part_listed : {B : Type 0} {put : Part A → B} {o : Option B}
        → Decoded (λ xs. put (Part.listed xs)) (Sorted before Good most_listed) (λ xs. Is (Part.listed xs)) o → Decoded put (SortedPart before Good) Is o
    part_listed (Decoded.found xs g h e) = Decoded.found (Part.listed xs) g h e
    part_listed (Decoded.none f e) = Decoded.none (no_part f) e

    pub part_put : {B : Type 0} {count : Part A → ℕ} {put : Part A → List B} {o : Option ℕ} {new : List B}
        → Put (λ xs. count (Part.listed xs)) (λ xs. put (Part.listed xs)) (Sorted before Good most_listed) (λ xs. Is (Part.listed xs)) o new
        → Put count put (SortedPart before Good) Is o new
    part_put (Put.found xs g h e f) = Put.found (Part.listed xs) g h e f
    part_put (Put.none f e) = Put.none (no_part f) e

  pub part_same : ((xs ys : List A) → All Good xs → All Good ys → Is (Part.listed xs) → Is (Part.listed ys) → xs ≡ ys)
      → ((xs : List A) → length xs ≤ most_listed → Is (Part.listed xs) → Is Part.everything → ⊥)
      → (p q : Part A) → SortedPart before Good p → SortedPart before Good q → Is p → Is q → p ≡ q
  part_same s n (Part.listed xs) (Part.listed ys) g l h k = ap Part.listed (s xs ys g.each l.each h k)
  part_same s n (Part.listed xs) Part.everything g l h k = absurd (n xs g.few h k)
  part_same s n Part.everything (Part.listed ys) g l h k = absurd (n ys l.few k h)
  part_same s n Part.everything Part.everything g l h k = refl

-- what is found, and what is not

-- a good value that has the numbers, and what is made of it
pub record Found {A B : Type 0} (store : A → B) (Good Is : A → Type 0) (b : B) : Type 0 where
  pub value : A
  pub good : Good value
  pub is : Is value
  pub stored : b ≡ store value

module _ {A B : Type 0} {store : A → B} {Good Is : A → Type 0} where
  pub decoded_none : Decoded store Good Is None → (x : A) → Good x → Is x → ⊥
  decoded_none (Decoded.found x g h e) = absurd (none-some _ e)
  decoded_none (Decoded.none f e) = f

  pub decoded_some : {b : B} → Decoded store Good Is (Some b) → Found store Good Is b
  decoded_some (Decoded.found x g h e) = record { value = x; good = g; is = h; stored = same_Some _ _ e }
  decoded_some (Decoded.none f e) = absurd (none-some _ (sym e))

module _ {A B : Type 0} {count : A → ℕ} {put : A → List B} {Good Is : A → Type 0} {new : List B} where
  pub put_none : Put count put Good Is None new → (x : A) → Good x → Is x → ⊥
  put_none (Put.found x g h e f) = absurd (none-some _ e)
  put_none (Put.none f e) = f

  -- a count and places that are what stores each good value
  pub put_some : {n : ℕ} {C : Type 0} (made : ℕ → List B → C) (store : A → C) → ((x : A) → Good x → made (count x) (put x) ≡ store x)
      → Put count put Good Is (Some n) new → Found store Good Is (made n new)
  put_some made store s (Put.found x g h e f) =
      record { value = x; good = g; is = h; stored = ap₂ made (same_Some _ _ e) f ∙ s x g }
  put_some made store s (Put.none f e) = absurd (none-some _ (sym e))

-- what was put into cleared places is what stores it

abbrev numbers_made : ℕ → List ℕ → Numbers
numbers_made count items = record { count = count; items = items }

abbrev provided_made : ℕ → List ℕ → Provided
provided_made count items = record { count = count; items = items }

module _ (row : List ℕ) (at : ℕ) {count : ℕ} {items : List ℕ} where
  provided_found : ListPut (replicate most_provided 0) row at (Some count) items
      → Found store_provided (Numbered most_provided) (FlatList row at) (provided_made count items)
  provided_found p = put_some provided_made store_provided (λ ns g. filled_provided (filled_put refl g.few)) p

  numbers_found : ListPut (replicate most_listed 0) row at (Some count) items
      → Found store_numbers (Numbered most_listed) (FlatList row at) (numbers_made count items)
  numbers_found p = put_some numbers_made store_numbers (λ ns g. filled_numbers (filled_put refl g.few)) p

  part_found : PartPut (replicate most_listed 0) row at (Some count) items
      → Found store_part (SortedPart ltb Word) (FlatPart row at) (numbers_made count items)
  part_found p = put_some numbers_made store_part stored p
    where
      stored : (q : Part ℕ) → SortedPart ltb Word q → numbers_made (part_count q) (put_part (replicate most_listed 0) q) ≡ store_part q
      stored (Part.listed xs) g = filled_numbers (filled_put refl g.few)
      stored Part.everything g = refl

-- the members of a set as a list

pub members_small : (x : ℕ) → All (λ r. r < regions) (members x)
unfolding members
members_small x =
    all_kept (has x) (λ r. r < regions) (λ r. r < regions) (λ r _ h. h) (count_from 0 regions)
    (all_counted (λ r. r < regions) 0 regions (λ n h. omega arith))

-- a row: two numbers, then parts

-- a number of 32 bits
pub word_is : {E : Type 0} (n : ℕ) {m : ℕ} (r : Result ℕ E) → OkIff r (n < 2 ^ 32) n → Some m ≡ result_ok r → (n < 2 ^ 32) × (n ≡ m)
word_is n (Ok l) k e = (k.0, sym (same_Some _ _ e ∙ k.1))
word_is n (Err d) k e = absurd (none-some _ (sym e))

module _ (x : ℕ) where
  -- the number of a region
  abbrev Inside : ℕ → Type 0
  Inside r = member r (members x) ≡ true

  abbrev within : ℕ → Option ℕ
  within n = then_some (has x n) n

  is_within : (n : ℕ) {r : ℕ} → Some r ≡ within n → Inside r × (n ≡ r)
  is_within n {r} e = let t = some_test n _ e in (sym (has_member x r) ∙ ap (has x) t.1 ∙ t.0, sym t.1)

  -- a region that is not of the set
  pub outside : {A B : Type 0} {store : A → B} {Good Is : A → Type 0} (n : ℕ) (region : A → ℕ) → ((y : A) → Good y → Inside (region y))
      → ((y : A) → Is y → n ≡ region y) → None ≡ within n → {o : Option B} → o ≡ None → Decoded store Good Is o
  outside n region g h e {o} q =
      Decoded.none (λ y l i. false_true (sym (none_test n _ e) ∙ ap (has x) (h y i) ∙ has_member x (region y) ∙ g y l)) q

  module _ (row : List ℕ) where
    pub bundle_found : {l r count : ℕ} {p : Packages} {items : List ℕ} → (get_or row 0 0 < 2 ^ 32) × (get_or row 0 0 ≡ l)
        → Some r ≡ within (get_or row 1 0) → PackagesDecoded row 2 (Some p)
        → ListPut (replicate most_provided 0) row (2 + (most_provided + 1)) (Some count) items
        → Decoded store_bundle (LegalBundle (members x)) (FlatBundle row)
        (Some (record { location = l; region = r; packages = p; services = record { count = count; items = items } }))
    bundle_found {l} {r} w e p s =
        let a = decoded_some p in
        let b = provided_found row (2 + (most_provided + 1)) s in
        let t = is_within (get_or row 1 0) e in
        Decoded.found (record { location = l; region = r; packages = a.value; services = b.value })
        (record { location = omega (arith, w.0, w.1); region = t.0; packages = a.good; services = b.good })
        (record { first = w.1; second = t.1; parts = (a.is, (b.is, tt)) })
        (λ i. Some (record { location = l; region = r; packages = a.stored i; services = b.stored i }))

    pub connection_found : {y z n m : ℕ} {items others : List ℕ} {p : Entries} → Some y ≡ within (get_or row 0 0) → Some z ≡ within (get_or row 1 0)
        → ListPut (replicate most_listed 0) row 2 (Some n) items → PackagePartDecoded row (2 + (most_listed + 1)) (Some p)
        → PartPut (replicate most_listed 0) row (2 + 2 * (most_listed + 1)) (Some m) others
        → Decoded store_connection (LegalConnection (members x)) (FlatConnection row)
        (then_some (not (eqb y z)) (record {
          source = y;
          target = z;
          bundles = record { count = n; items = items };
          packages = p;
          services = record { count = m; items = others };
        }))
    connection_found {y} {z} {n} {m} {items} {others} {p} u v b q s = go (eqb y z) refl
      where
        from : Inside y × (get_or row 0 0 ≡ y)
        from = is_within (get_or row 0 0) u

        to : Inside z × (get_or row 1 0 ≡ z)
        to = is_within (get_or row 1 0) v

        go : (t : Bool) → eqb y z ≡ t → Decoded store_connection (LegalConnection (members x)) (FlatConnection row)
            (then_some (not t) (record { source = y; target = z; bundles = numbers_made n items; packages = p; services = numbers_made m others }))
        go true e =
            Decoded.none
            (λ c g h. false_true (sym g.differ ∙ eq-eqb _ _ (sym h.first ∙ from.1 ∙ eqb-true y z e ∙ sym to.1 ∙ h.second))) refl
        go false e =
            let a = numbers_found row 2 b in
            let d = decoded_some q in
            let f = part_found row (2 + 2 * (most_listed + 1)) s in
            Decoded.found (record { source = y; target = z; filter = record { bundles = a.value; packages = d.value; services = f.value } })
            (record {
              source = from.0;
              target = to.0;
              differ = e;
              filter = record { bundles = a.good; packages = d.good; services = f.good };
            })
            (record { first = from.1; second = to.1; parts = (a.is, (d.is, (f.is, tt))) })
            (λ i. Some (record { source = y; target = z; bundles = a.stored i; packages = d.stored i; services = f.stored i }))

-- a row is that of one bundle or connection

pub bundle_same : {rs ts : List ℕ} (row : List ℕ) (a b : Bundle) → LegalBundle rs a → LegalBundle ts b → FlatBundle row a → FlatBundle row b → a ≡ b
bundle_same row a b g l h k = λ i. record {
  location = (sym h.first ∙ k.first) i;
  region = (sym h.second ∙ k.second) i;
  packages = coded_same package_coded row 2 a.packages b.packages g.packages.each l.packages.each h.parts.0 k.parts.0 i;
  services = list_same row (2 + (most_provided + 1)) a.services b.services h.parts.1.0 k.parts.1.0 i;
}

pub connection_same : {rs ts : List ℕ} (row : List ℕ) (a b : Connection) → LegalConnection rs a → LegalConnection ts b
    → FlatConnection row a → FlatConnection row b → a ≡ b
connection_same row a b g l h k = λ i. record {
  source = (sym h.first ∙ k.first) i;
  target = (sym h.second ∙ k.second) i;
  filter = record {
    bundles = list_same row 2 a.filter.bundles b.filter.bundles h.parts.0 k.parts.0 i;
    packages =
        part_same entry_before LegalEntry (λ p. FlatPart row (2 + (most_listed + 1)) (map_part entry_code p))
        (coded_same entry_coded row (2 + (most_listed + 1))) (λ xs few h k. omega (arith, h.0, length-map xs entry_code))
        a.filter.packages b.filter.packages g.filter.packages l.filter.packages h.parts.1.0 k.parts.1.0 i;
    services =
        part_same ltb Word (FlatPart row (2 + 2 * (most_listed + 1)))
        (λ xs ys g l h k. list_same row (2 + 2 * (most_listed + 1)) xs ys h k) (λ xs few h k. omega (arith, h.0))
        a.filter.services b.filter.services g.filter.services l.filter.services h.parts.1.1.0 k.parts.1.1.0 i;
  };
}

-- bundles and connections are told apart by their rows, and their order is that of a number

pub bundle_laws : (rs : List ℕ) → KindLaws bundle_width (λ (b : StoredBundle). b.location) (bundle_kind rs)
bundle_laws rs = record { wide = omega arith; keyed = λ a b g h. refl; same = bundle_same }

pub connection_laws : (rs : List ℕ) → All (λ r. r < regions) rs
    → KindLaws connection_width (λ (c : StoredConnection). c.source * regions + c.target) (connection_kind rs)
connection_laws rs small = record {
  wide = omega arith;
  keyed = λ a b g h.
      connection_order regions a b (member_all (λ r. r < regions) a.target rs small g.target) (member_all (λ r. r < regions) b.target rs small h.target);
  same = connection_same;
}
