-- Laws of the different packages of a list, and of a collection that gathers them.
use mathlib.Core.Path.{◌≡◌, refl, sym, ap, ◌∙◌, subst}
use mathlib.Core.Bool.{Bool, true, false, ◌&&◌, ◌||◌, or-true, or-false, or_assoc}
use mathlib.Core.List.{List, [], ◌∷◌, ◌++◌, map}
use Prim.Native.Nat.{ℕ, ◌+◌, ◌-◌, ◌≤◌, ◌<◌}
use native.Mathlib.Numerals.{add-one}
use native.Mathlib.Omega.{arith}
use borrow.Author.Tests.{eqb-true}
use lib.Dec.{eqb}
use lib.ListN.{length, get_or, take, set, replicate, length-append, length-map, length-set, replicate-append-replicate}
use lib.Seq.{take-suc, take-suc-set, take-length, length-take-le, get_or-take}
use Rattle.region_graph.specs.Size.{most_bundles, most_provided}
use Rattle.region_graph.specs.Lists.{All, pick, exists, concat_map}
use Rattle.region_graph.specs.Model.{Package, packages, Bundle}
use Rattle.region_graph.specs.Items.{is_package}
use Rattle.region_graph.specs.Record.{Valid, meaning, no_bundle, store_packages, packages_of, store_bundle, bundle_in}
use Rattle.region_graph.specs.Places.{Short, ShortBundle, AtMost, PackagesStored}
use Rattle.region_graph.specs.declared.Graph.{Graph}
use Rattle.region_graph.specs.declared.packages.Packages.{Packages}
use Rattle.region_graph.specs.declared.bundles.StoredBundle.{StoredBundle}
use Rattle.region_graph.proofs.Lists.{eqb_sym, and_fst, and_snd, pick_yes, pick_no, exists_append, exists_none, concat_next, concat_within, concat_most}
use Rattle.region_graph.proofs.Arrays.{Filled, filled_at, prefix_counted}
use Rattle.region_graph.proofs.Columns.{no_package, packages_length, packages_at}
use Rattle.region_graph.proofs.Storing.{stored_as, bundles_stored, packages_back, numbers_column, versions_column}
use Rattle.region_graph.proofs.Views.{stored_length, bundle_means_at}
use Rattle.region_routes.specs.declared.Kind.{Kind}
use Rattle.region_listing.specs.Listing.{joined, joined_all, different, without_version, provided, held}
use Rattle.region_listing.specs.Counts.{most_different, items_in, Collected}
use Rattle.region_listing.specs.declared.collection.Collection.{Collection}

-- a number with a version
abbrev pub pair : ℕ → ℕ → Package
pair n v = record { number = n; version = v }

-- packages are equal when number and version are
abbrev pub same_pair : Package → Package → Bool
same_pair p q = is_package p.number p.version q

-- whether a list has a package
abbrev pub has_pair : Package → List Package → Bool
has_pair p ps = exists (same_pair p) ps

-- two lists join one after the other
pub joined_append : (s xs ys : List Package) → joined_all s (xs ++ ys) ≡ joined_all (joined_all s xs) ys
joined_append s [] ys = refl
joined_append s (x ∷ xs) ys = joined_append (joined s x) xs ys

joined_length : (s : List Package) (p : Package) → length (joined s p) ≤ length s + 1
joined_length s p = go (has_pair p s)
  where
    go : (b : Bool) → length (pick b s (s ++ (p ∷ []))) ≤ length s + 1
    go true = omega arith
    go false = omega (arith, length-append s (p ∷ []))

-- no more are different than there are
pub joined_few : (s xs : List Package) → length (joined_all s xs) ≤ length s + length xs
joined_few s [] = omega arith
joined_few s (x ∷ xs) = omega (arith, joined_few (joined s x) xs, joined_length s x)

-- one place more of each column is one package more
packages_snoc : (ns vs : List ℕ) (n v : ℕ) → length ns ≡ length vs → packages (ns ++ (n ∷ [])) (vs ++ (v ∷ [])) ≡ packages ns vs ++ (pair n v ∷ [])
packages_snoc [] [] n v e = refl
packages_snoc [] (w ∷ vs) n v e = absurd (omega arith)
packages_snoc (m ∷ ns) [] n v e = absurd (omega arith)
packages_snoc (m ∷ ns) (w ∷ vs) n v e = ap (λ (l : List Package). pair m w ∷ l) (packages_snoc ns vs n v (omega arith))

-- what stands in the first n places of two columns
abbrev pub in_columns : List ℕ → List ℕ → ℕ → Collection
in_columns ns vs n = record { count = n; numbers = ns; versions = vs }

module _ {d : Collection} {ps : List Package} (c : Collected d ps) where
  -- the first places of each column are as many as the collection says
  pub collected_numbers : d.count ≡ length (take d.count d.numbers)
  collected_numbers = prefix_counted d.numbers d.count c.numbers_size c.count

  pub collected_versions : d.count ≡ length (take d.count d.versions)
  collected_versions = prefix_counted d.versions d.count c.versions_size c.count

  pub collected_length : d.count ≡ length ps
  unfolding items_in
  collected_length =
      omega (
        arith,
        packages_length (take d.count d.numbers) (take d.count d.versions),
        ap length c.those,
        collected_numbers,
        collected_versions,
      )

  -- a collection has what it has
  pub collected_own : Collected d (items_in d)
  collected_own = record { count = c.count; numbers_size = c.numbers_size; versions_size = c.versions_size; those = refl }

  -- what stands at a place
  pub collected_at : (i : ℕ) → i < d.count → pair (get_or d.numbers i 0) (get_or d.versions i 0) ≡ get_or ps i no_package
  unfolding items_in
  collected_at i h =
      let ns = take d.count d.numbers in
      let vs = take d.count d.versions in
      sym (λ k. pair (get_or-take d.count d.numbers i 0 h k) (get_or-take d.count d.versions i 0 h k))
      ∙ sym (packages_at ns vs i (omega (arith, collected_length, ap length c.those))) ∙ ap (λ (l : List Package). get_or l i no_package) c.those

  -- the next place takes one more
  pub collected_more : (n v : ℕ) → d.count < most_different
      → Collected (in_columns (set d.numbers d.count n) (set d.versions d.count v) (d.count + 1)) (ps ++ (pair n v ∷ []))
  unfolding items_in
  collected_more n v h =
      record {
        count = omega arith;
        numbers_size = length-set d.numbers d.count n ∙ c.numbers_size;
        versions_size = length-set d.versions d.count v ∙ c.versions_size;
        those =
            (λ i. packages (column d.numbers n (omega (arith, c.numbers_size)) i) (column d.versions v (omega (arith, c.versions_size)) i))
            ∙ packages_snoc (take d.count d.numbers) (take d.count d.versions) n v (sym collected_numbers ∙ collected_versions)
            ∙ ap (λ (l : List Package). l ++ (pair n v ∷ [])) c.those;
      }
    where
      column : (items : List ℕ) (x : ℕ) → d.count < length items
          → take (d.count + 1) (set items d.count x) ≡ take d.count items ++ (x ∷ [])
      column items x l = rw add-one (take-suc-set items d.count x l)

-- the packages `ls` up to place i have joined those at the start
pub record Joining (start ls : List Package) (ns vs : List ℕ) (n i : ℕ) : Type 0 where
  pub room : length start + length ls ≤ most_different
  pub inside : i ≤ length ls
  pub those : Collected (in_columns ns vs n) (joined_all start (take i ls))

module _ {start ls : List Package} {ns vs : List ℕ} {n i : ℕ} (j : Joining start ls ns vs n i) (h : i < length ls) where
  -- there is a place for the next package
  pub joining_room : n < most_different
  joining_room =
      omega (
        arith,
        j.room,
        collected_length j.those,
        joined_few start (take i ls),
        length-take-le i ls (omega arith),
      )

  module _ {x v : ℕ} (f : pair x v ≡ get_or ls i no_package) where
    abbrev so_far : List Package
    so_far = joined_all start (take i ls)

    next : joined_all start (take (i + 1) ls) ≡ joined so_far (pair x v)
    next =
        ap (joined_all start) (ap (λ (k : ℕ). take k ls) (add-one i) ∙ take-suc ls i no_package h)
        ∙ joined_append start (take i ls) (get_or ls i no_package ∷ []) ∙ ap (joined so_far) (sym f)

    -- what a search in the columns finds
    found : {b : Bool} → b ≡ has_pair (pair x v) (packages (take n ns) (take n vs)) → has_pair (pair x v) so_far ≡ b
    unfolding items_in
    found e = sym (e ∙ ap (has_pair (pair x v)) j.those.those)

    -- it is there already
    pub joining_left : {b : Bool} → b ≡ has_pair (pair x v) (packages (take n ns) (take n vs)) → b ≡ true → Joining start ls ns vs n (i + 1)
    joining_left e t =
        record {
          room = j.room;
          inside = omega arith;
          those = rw (next ∙ pick_yes so_far (so_far ++ (pair x v ∷ [])) (found e ∙ t)) j.those;
        }

    -- or it is not
    pub joining_took : {b : Bool} → b ≡ has_pair (pair x v) (packages (take n ns) (take n vs)) → b ≡ false
        → Joining start ls (set ns n x) (set vs n v) (n + 1) (i + 1)
    joining_took e t =
        record {
          room = j.room;
          inside = omega arith;
          those = rw (next ∙ pick_no so_far (so_far ++ (pair x v ∷ [])) (found e ∙ t)) (collected_more j.those x v joining_room);
        }

-- the package at a place of a stored list
pub stored_at : {p : Packages} → PackagesStored p → (i : ℕ) → i < p.count
    → pair (get_or p.numbers i 0) (get_or p.versions i 0) ≡ get_or (packages_of p) i no_package
stored_at {p} s i h = λ k. pair (filled_at (numbers_column p s) i 0 no_package h k) (filled_at (versions_column p s) i 0 no_package h k)

-- numbers beside cleared versions
module _ {items : List ℕ} {count : ℕ} {xs : List ℕ} (f : Filled (λ x. x) 0 most_provided items count xs) where
  abbrev cleared : Packages
  cleared = record { count = count; numbers = items; versions = replicate most_provided 0 }

  no_versions : (ys : List ℕ) → map (λ p. p.version) (map without_version ys) ≡ replicate (length ys) 0
  no_versions [] = refl
  no_versions (y ∷ ys) = ap (λ (l : List ℕ). 0 ∷ l) (no_versions ys)

  same_numbers : (ys : List ℕ) → map (λ x. x) ys ≡ map (λ p. p.number) (map without_version ys)
  same_numbers [] = refl
  same_numbers (y ∷ ys) = ap (λ (l : List ℕ). y ∷ l) (same_numbers ys)

  cleared_stores : cleared ≡ store_packages (map without_version xs)
  unfolding store_packages
  cleared_stores =
      let n = length xs in
      let e : length (map without_version xs) ≡ n = length-map xs without_version in
      let z : n + (most_provided - n) ≡ most_provided = omega (arith, f.room) in
      let versions : replicate {A = ℕ} most_provided 0 ≡ map (λ p. p.version) (map without_version xs) ++ replicate (most_provided - n) 0 =
      ap (λ (k : ℕ). replicate {A = ℕ} k 0) (sym z) ∙ sym (replicate-append-replicate n (most_provided - n) 0)
      ∙ ap (λ (l : List ℕ). l ++ replicate (most_provided - n) 0) (sym (no_versions xs)) in
      let rest : replicate {A = ℕ} (most_provided - n) 0 ≡ replicate (most_provided - length (map without_version xs)) 0 =
      ap (λ (k : ℕ). replicate {A = ℕ} (most_provided - k) 0) (sym e) in
      λ i. record {
        count = (f.counted ∙ sym e) i;
        numbers = (f.shape ∙ (λ k. same_numbers xs k ++ rest k)) i;
        versions = (versions ∙ ap (λ (l : List ℕ). map (λ p. p.version) (map without_version xs) ++ l) rest) i;
      }

  pub cleared_stored : PackagesStored cleared × (packages_of cleared ≡ map without_version xs)
  cleared_stored = (
    stored_as store_packages packages_of (Short most_provided) (λ ps h. packages_back ps) (map without_version xs) cleared_stores
        (omega (arith, length-map xs without_version, f.room)),
    ap packages_of cleared_stores ∙ packages_back (map without_version xs),
  )

-- one bundle more
pub held_next : (k : Kind) (bs : List Bundle) (i : ℕ) → i < length bs
    → held k (take (i + 1) bs) ≡ joined_all (held k (take i bs)) (provided k (get_or bs i no_bundle))
unfolding held
held_next k bs i h =
    ap different (concat_next (provided k) bs i no_bundle h) ∙ joined_append [] (concat_map (provided k) (take i bs)) (provided k (get_or bs i no_bundle))

-- a bundle brings few of a kind
pub provided_few : (b : Bundle) → ShortBundle b → (k : Kind) → length (provided k b) ≤ most_provided
provided_few b h Kind.Bundle = omega arith
provided_few b h Kind.Package = h.packages
provided_few b h Kind.Service = omega (arith, length-map b.services without_version, h.services)

-- the places hold what the bundles before one and that bundle bring
pub held_room : (bs : List Bundle) → AtMost most_bundles ShortBundle bs → (k : Kind) (i : ℕ) → i < length bs
    → length (held k (take i bs)) + length (provided k (get_or bs i no_bundle)) ≤ most_different
unfolding held
held_room bs row k i h =
    omega (
      arith,
      joined_few [] (concat_map (provided k) (take i bs)),
      concat_within (provided k) bs i (length bs) no_bundle h (omega arith),
      ap (λ (xs : List Bundle). length (concat_map (provided k) xs)) (take-length bs),
      concat_most ShortBundle (provided k) most_provided (λ b x. provided_few b x k) bs row.each,
      row.few,
    )

-- the bundles of a valid graph, one by one
module _ {g : Graph} (v : Valid g) {items : List StoredBundle} (s : items ≡ map store_bundle (meaning g).bundles) (k : Kind) where
  bundles_long : length items ≡ length (meaning g).bundles
  bundles_long = stored_length store_bundle (meaning g).bundles s

  bundles_short : AtMost most_bundles ShortBundle (meaning g).bundles
  unfolding meaning
  bundles_short = (bundles_stored g v).good

  -- what those before one bring is collected, and `p` is what that one brings
  module _ {i : ℕ} (l : i < length items) (d : StoredBundle) {c : Collection} (h : Collected c (held k (take i (meaning g).bundles)))
      (p : Packages) (b : packages_of p ≡ provided k (bundle_in (get_or items i d))) where
    brought : packages_of p ≡ provided k (get_or (meaning g).bundles i no_bundle)
    brought = b ∙ ap (provided k) (bundle_means_at g v s i d l)

    pub collecting_room : length (items_in c) + length (packages_of p) ≤ most_different
    collecting_room =
        omega (
          arith,
          held_room (meaning g).bundles bundles_short k i (omega (arith, bundles_long)),
          ap length h.those,
          ap length brought,
        )

    pub collecting_more : {e : Collection} → Collected e (joined_all (items_in c) (packages_of p)) → Collected e (held k (take (i + 1) (meaning g).bundles))
    collecting_more {e} r =
        subst (Collected e)
        (ap (λ (xs : List Package). joined_all xs (packages_of p)) h.those ∙ ap (joined_all (held k (take i (meaning g).bundles))) brought
        ∙ sym (held_next k (meaning g).bundles i (omega (arith, bundles_long))))
        r

-- the different packages of a list are those that it has
same_equal : (p x : Package) → same_pair p x ≡ true → p ≡ x
same_equal p x e =
    let n = eqb-true p.number x.number (and_fst (eqb p.number x.number) (eqb p.version x.version) e) in
    let v = eqb-true p.version x.version (and_snd (eqb p.number x.number) (eqb p.version x.version) e) in
    λ i. pair (n i) (v i)

joined_member : (p : Package) (s : List Package) (x : Package) → has_pair p (joined s x) ≡ (has_pair p s || same_pair p x)
joined_member p s x = go (has_pair x s) refl (same_pair p x) refl
  where
    go : (b : Bool) → has_pair x s ≡ b → (t : Bool) → same_pair p x ≡ t → has_pair p (pick b s (s ++ (x ∷ []))) ≡ (has_pair p s || t)
    go true e true f = (ap (λ (q : Package). has_pair q s) (same_equal p x f) ∙ e) ∙ sym (or-true (has_pair p s))
    go true e false f = sym (or-false (has_pair p s))
    go false e t f =
        exists_append (same_pair p) s (x ∷ []) ∙ ap (λ (u : Bool). has_pair p s || (u || false)) f
        ∙ ap (λ (u : Bool). has_pair p s || u) (or-false t)

joined_members : (p : Package) (s xs : List Package) → has_pair p (joined_all s xs) ≡ (has_pair p s || has_pair p xs)
joined_members p s [] = sym (or-false (has_pair p s))
joined_members p s (x ∷ xs) =
    joined_members p (joined s x) xs ∙ ap (λ (b : Bool). b || has_pair p xs) (joined_member p s x)
    ∙ or_assoc (has_pair p s) (same_pair p x) (has_pair p xs)

pub different_members : (p : Package) (xs : List Package) → has_pair p (different xs) ≡ has_pair p xs
different_members p xs = joined_members p [] xs

-- and each of them stands there once
abbrev pub Once : List Package → Type 0
Once [] = Unit {0}
Once (p ∷ ps) = (has_pair p ps ≡ false) × Once ps

same_sym : (p q : Package) → same_pair p q ≡ same_pair q p
same_sym p q = λ i. eqb_sym p.number q.number i && eqb_sym p.version q.version i

once_snoc : (ps : List Package) (p : Package) → Once ps → All (λ q. same_pair p q ≡ false) ps → Once (ps ++ (p ∷ []))
once_snoc [] p d h = (refl, tt)
once_snoc (q ∷ ps) p d h = (
  exists_append (same_pair q) ps (p ∷ []) ∙ (λ i. d.0 i || ((same_sym q p ∙ h.0) i || false)),
  once_snoc ps p d.1 h.1,
)

joined_distinct : (s xs : List Package) → Once s → Once (joined_all s xs)
joined_distinct s [] d = d
joined_distinct s (x ∷ xs) d = joined_distinct (joined s x) xs (go (has_pair x s) refl)
  where
    go : (b : Bool) → has_pair x s ≡ b → Once (pick b s (s ++ (x ∷ [])))
    go true e = d
    go false e = once_snoc s x d (exists_none (same_pair x) s e)

pub different_distinct : (xs : List Package) → Once (different xs)
different_distinct xs = joined_distinct [] xs tt
