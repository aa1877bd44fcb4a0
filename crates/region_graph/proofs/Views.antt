-- What the layers above read of a record: the place of a location, and the sets of holders and predecessors as bundles and connections join.
use mathlib.Core.Path.{◌≡◌, refl, sym, ap, ap₂, ◌∙◌, subst}
use mathlib.Core.Bool.{Bool, true, false, ◌&&◌, ◌||◌, and-true, and-false, or-false}
use mathlib.Core.List.{List, [], ◌∷◌, map}
use Rattle.std.specs.Prelude.{Option, Some, None, option_map, cond}
use Rattle.std.specs.List.{find}
use Rattle.std.specs.Option.{MatchOption, is_some}
use denote.Ref.{Bor}
use Prim.Native.Nat.{ℕ, zero, suc, ◌+◌, ◌≤◌, ◌<◌}
use native.Mathlib.Numerals.{add-one}
use native.Mathlib.Omega.{arith}
use lib.Dec.{eqb}
use lib.Bits.{bit_or}
use lib.ListN.{length, get_or, take, drop, set, length-map}
use lib.Seq.{take-suc, take_all}
use borrow.Author.Tests.{eq-eqb, ne_eqb}
use Rattle.region_graph.specs.Size.{regions}
use Rattle.region_graph.specs.Lists.{pick, exists, count_from, All}
use Rattle.region_graph.specs.Sets.{singleton, set_of}
use Rattle.region_graph.specs.Model.{Bundle, Connection, Filter, LegalConnection}
use Rattle.region_graph.specs.Calls.{at_location}
use Rattle.region_graph.specs.Items.{provides_of, passes_of, provides, passes}
use Rattle.region_graph.specs.Record.{Valid, meaning, no_bundle, no_connection, store_bundle, bundle_in, store_connection, connection_in}
use Rattle.region_graph.specs.Places.{ShortBundle, ShortConnection, BundleStored, ConnectionStored}
use Rattle.region_graph.specs.Promise.{place_of, provider_place, holder_set, predecessor_sets}
use Rattle.region_graph.specs.declared.Graph.{Graph}
use Rattle.region_graph.specs.declared.Item.{Item}
use Rattle.region_graph.specs.declared.bundles.StoredBundle.{StoredBundle}
use Rattle.region_graph.specs.declared.connections.StoredConnection.{StoredConnection}
use Rattle.region_graph.proofs.Lists.{exists_append, exists_here, exists_later, exists_end, all_at, member_all}
use Rattle.region_graph.proofs.Bits.{set_ext, set_none, set_join}
use Rattle.region_graph.proofs.Arrays.{getD_map_in}
use Rattle.region_graph.proofs.Storing.{stored_as, bundle_back, connection_back, bundles_stored, connections_stored}

-- lists

-- some element of one more passes
pub exists_more : {A : Type 0} (p : A → Bool) (xs : List A) (i : ℕ) (d : A) → i < length xs
    → exists p (take (i + 1) xs) ≡ (exists p (take i xs) || p (get_or xs i d))
exists_more p xs i d h =
    rw (add-one, take-suc xs i d h)
    (exists_append p (take i xs) (get_or xs i d ∷ []) ∙ ap (λ (t : Bool). exists p (take i xs) || t) (or-false (p (get_or xs i d))))

-- a list of the values of a function at consecutive numbers: what stands at a place
pub counted_at : (f : ℕ → ℕ) (a k j n d : ℕ) → j < k → n ≡ a + j → get_or (map f (count_from a k)) j d ≡ f n
counted_at f a zero j n d h e = absurd (omega arith)
counted_at f a (suc k) zero n d h e = ap f (omega arith)
counted_at f a (suc k) (suc j) n d h e = counted_at f (suc a) k j n d (omega arith) (omega arith)

-- functions that agree give one list
counted_same : (f g : ℕ → ℕ) (a k : ℕ) → ((n : ℕ) → a ≤ n → f n ≡ g n) → map f (count_from a k) ≡ map g (count_from a k)
counted_same f g a zero h = refl
counted_same f g a (suc k) h = rw (h a (omega arith), counted_same f g (suc a) k (λ n l. h n (omega arith)))

-- functions that agree but at one number give lists that differ at its place
counted_set : (f g : ℕ → ℕ) (a k j n v : ℕ) → j < k → n ≡ a + j → v ≡ g n → ((m : ℕ) → (m ≡ n → ⊥) → f m ≡ g m)
    → set (map f (count_from a k)) j v ≡ map g (count_from a k)
counted_set f g a zero j n v l e w h = absurd (omega arith)
counted_set f g a (suc k) zero n v l e w h =
    let s : n ≡ a = omega arith in
    rw (w, s, counted_same f g (suc a) k (λ m b. h m (λ q. omega arith)))
counted_set f g a (suc k) (suc j) n v l e w h =
    rw (h a (λ q. omega arith), counted_set f g (suc a) k j n v (omega arith) (omega arith) w h)

-- for each region a set of regions, by a test: as one region more comes into one of the sets
pub sets_more : (f g : ℕ → ℕ → Bool) (r : ℕ) {sets : List ℕ} {s x : ℕ} → sets ≡ map (λ m. set_of (λ n. f n m)) (count_from 0 regions) → x ≡ singleton r
    → s < regions → ((n : ℕ) → g n s ≡ (f n s || eqb r n)) → ((n m : ℕ) → (m ≡ s → ⊥) → g n m ≡ f n m)
    → set sets s (bit_or (get_or sets s 0) x) ≡ map (λ m. set_of (λ n. g n m)) (count_from 0 regions)
sets_more f g r {sets} {s} {x} p t l own other =
    ap (λ (ls : List ℕ). set ls s (bit_or (get_or sets s 0) x)) p
    ∙ counted_set (λ m. set_of (λ n. f n m)) (λ m. set_of (λ n. g n m)) 0 regions s s (bit_or (get_or sets s 0) x) l (omega arith)
    (ap₂ bit_or (ap (λ (ls : List ℕ). get_or ls s 0) p ∙ counted_at (λ m. set_of (λ n. f n m)) 0 regions s s 0 l (omega arith)) t
    ∙ set_join (λ n. f n s) r ∙ set_ext (λ n. f n s || eqb r n) (λ n. g n s) (λ n k. sym (own n)))
    (λ m k. set_ext (λ n. f n m) (λ n. g n m) (λ n b. sym (other n m k)))

-- items

-- of a kind above 2 a bundle brings nothing
pub provides_none : (k : ℕ) (i : Item) (b : Bundle) → (k ≡ 0 → ⊥) → (k ≡ 1 → ⊥) → (k ≡ 2 → ⊥) → provides_of k i b ≡ false
provides_none zero i b f g h = absurd (f refl)
provides_none (suc zero) i b f g h = absurd (g refl)
provides_none (suc (suc zero)) i b f g h = absurd (h refl)
provides_none (suc (suc (suc k))) i b f g h = refl

-- and a filter passes nothing
pub passes_none : (k : ℕ) (i : Item) (p : Filter) → (k ≡ 0 → ⊥) → (k ≡ 1 → ⊥) → (k ≡ 2 → ⊥) → passes_of k i p ≡ false
passes_none zero i p f g h = absurd (f refl)
passes_none (suc zero) i p f g h = absurd (g refl)
passes_none (suc (suc zero)) i p f g h = absurd (h refl)
passes_none (suc (suc (suc k))) i p f g h = refl

-- the bundles and the connections of a valid record as slices: what stands at a place

module _ {A B : Type 0} (store : A → B) {items : List B} (xs : List A) (s : items ≡ map store xs) where
  pub stored_length : length items ≡ length xs
  stored_length = rw s (length-map xs store)

  pub stored_at : (i : ℕ) (e : B) (d : A) → i < length items → get_or items i e ≡ store (get_or xs i d)
  stored_at i e d l = rw s (getD_map_in store xs i e d (omega (arith, stored_length)))

-- each bundle, and each connection, is stored from one with short lists
pub stored_bundles : (bs : List Bundle) → All ShortBundle bs → All BundleStored (map store_bundle bs)
stored_bundles [] h = tt
stored_bundles (b ∷ bs) h = (stored_as store_bundle bundle_in ShortBundle (λ b h. bundle_back b) b refl h.0, stored_bundles bs h.1)

pub stored_connections : (cs : List Connection) → All ShortConnection cs → All ConnectionStored (map store_connection cs)
stored_connections [] h = tt
stored_connections (c ∷ cs) h = (stored_as store_connection connection_in ShortConnection connection_back c refl h.0, stored_connections cs h.1)

module _ (g : Graph) (v : Valid g) where
  pub bundles_each_stored : All BundleStored (map store_bundle (meaning g).bundles)
  unfolding meaning
  bundles_each_stored = stored_bundles (meaning g).bundles (bundles_stored g v).good.each

  pub connections_each_stored : All ConnectionStored (map store_connection (meaning g).connections)
  unfolding meaning
  connections_each_stored = stored_connections (meaning g).connections (connections_stored g v).good.each

  module _ {items : List StoredBundle} (s : items ≡ map store_bundle (meaning g).bundles) where
    pub bundles_stored_as : All BundleStored items
    bundles_stored_as = subst (All BundleStored) (sym s) bundles_each_stored

    pub bundle_stored_at : (i : ℕ) (e : StoredBundle) → i < length items → BundleStored (get_or items i e)
    bundle_stored_at i e l = all_at BundleStored items i e l bundles_stored_as

    pub bundle_means_at : (i : ℕ) (e : StoredBundle) → i < length items → bundle_in (get_or items i e) ≡ get_or (meaning g).bundles i no_bundle
    bundle_means_at i e l = ap bundle_in (stored_at store_bundle (meaning g).bundles s i e no_bundle l) ∙ bundle_back (get_or (meaning g).bundles i no_bundle)

  module _ {items : List StoredConnection} (s : items ≡ map store_connection (meaning g).connections) where
    pub connections_stored_as : All ConnectionStored items
    connections_stored_as = subst (All ConnectionStored) (sym s) connections_each_stored

    pub connection_stored_at : (i : ℕ) (e : StoredConnection) → i < length items → ConnectionStored (get_or items i e)
    connection_stored_at i e l = all_at ConnectionStored items i e l connections_stored_as

    pub connection_means_at : (i : ℕ) (e : StoredConnection) → i < length items → connection_in (get_or items i e) ≡ get_or (meaning g).connections i no_connection
    unfolding meaning
    connection_means_at i e l =
        ap connection_in (stored_at store_connection (meaning g).connections s i e no_connection l)
        ∙ connection_back (get_or (meaning g).connections i no_connection)
        (all_at ShortConnection (meaning g).connections i no_connection (omega (arith, stored_length store_connection (meaning g).connections s)) (connections_stored g v).good.each)

-- what is told of the first bundle at a location, where `installed` has looked for it

abbrev pub Installed : ℕ → List StoredBundle → Option (Bor StoredBundle) → Type 0
Installed l items o = option_map (λ b. b.now) o ≡ find (λ b. eqb b.location l) items

of_lent : {A : Type 0} (o : Option (Bor A)) (P : Type 0) (Q : A → Type 0) → MatchOption (option_map (λ b. b.now) o) P Q → MatchOption o P (λ b. Q b.now)
of_lent None P Q h = h
of_lent (Some b) P Q h = h

found_stored : (l : ℕ) (ys : List StoredBundle) → All BundleStored ys → MatchOption (find (λ b. eqb b.location l) ys) (Unit {0}) BundleStored
found_stored l [] h = tt
found_stored l (y ∷ ys) h = go (eqb y.location l) (found_stored l ys h.1)
  where
    go : (t : Bool) → MatchOption (find (λ b. eqb b.location l) ys) (Unit {0}) BundleStored
        → MatchOption (cond t (Some y) (find (λ b. eqb b.location l) ys)) (Unit {0}) BundleStored
    go true k = h.0
    go false k = k

module _ (l : ℕ) (tell : Bundle → Option ℕ) (told : List Bundle → Option ℕ) (none : told [] ≡ None)
    (more : (b : Bundle) (bs : List Bundle) → told (b ∷ bs) ≡ pick (at_location l b) (tell b) (told bs)) where
  first_told : (bs : List Bundle) → MatchOption (find (λ b. eqb b.location l) (map store_bundle bs)) (None ≡ told bs) (λ b. tell (bundle_in b) ≡ told bs)
  first_told [] = sym none
  first_told (b ∷ bs) = rw (more b bs) (go (eqb b.location l) (first_told bs))
    where
      go : (t : Bool) → MatchOption (find (λ b. eqb b.location l) (map store_bundle bs)) (None ≡ told bs) (λ b. tell (bundle_in b) ≡ told bs)
          → MatchOption (cond t (Some (store_bundle b)) (find (λ b. eqb b.location l) (map store_bundle bs)))
          (None ≡ pick t (tell b) (told bs)) (λ y. tell (bundle_in y) ≡ pick t (tell b) (told bs))
      go true h = ap tell (bundle_back b)
      go false h = h

  lent_told : (o : Option (Bor StoredBundle)) (bs : List Bundle) {items : List StoredBundle} → items ≡ map store_bundle bs → Installed l items o
      → MatchOption o (None ≡ told bs) (λ b. tell (bundle_in b.now) ≡ told bs)
  lent_told o bs s e =
      of_lent o (None ≡ told bs) (λ b. tell (bundle_in b) ≡ told bs) (rw (e ∙ ap (find (λ b. eqb b.location l)) s) (first_told bs))

module _ (l : ℕ) (o : Option (Bor StoredBundle)) (bs : List Bundle) {items : List StoredBundle} (s : items ≡ map store_bundle bs) (e : Installed l items o) where
  -- its region
  pub place_told : MatchOption o (None ≡ place_of bs l) (λ b. Some b.now.region ≡ place_of bs l)
  place_told = lent_told l (λ b. Some b.region) (λ bs. place_of bs l) refl (λ b bs. refl) o bs s e

  -- its region, where it provides an item
  pub provider_told : (i : Item)
      → MatchOption o (None ≡ provider_place bs l i) (λ b. pick (provides i (bundle_in b.now)) (Some b.now.region) None ≡ provider_place bs l i)
  provider_told i = lent_told l (λ b. pick (provides i b) (Some b.region) None) (λ bs. provider_place bs l i) refl (λ b bs. refl) o bs s e

  -- it is one of the bundles
  pub installed_stored : All BundleStored items → MatchOption o (Unit {0}) (λ b. BundleStored b.now)
  installed_stored h = of_lent o (Unit {0}) BundleStored (rw e (found_stored l items h))

-- the set of the regions to which some element leads, as one element more comes in

module _ {A : Type 0} (q : A → ℕ → Bool) (xs : List A) (i : ℕ) (d : A) (h : i < length xs) where
  -- an element that leads to one region adds it
  pub set_took : (r : ℕ) → ((n : ℕ) → q (get_or xs i d) n ≡ eqb r n)
      → bit_or (set_of (λ n. exists (λ x. q x n) (take i xs))) (singleton r) ≡ set_of (λ n. exists (λ x. q x n) (take (i + 1) xs))
  set_took r f =
      set_join (λ n. exists (λ x. q x n) (take i xs)) r
      ∙ set_ext (λ n. exists (λ x. q x n) (take i xs) || eqb r n) (λ n. exists (λ x. q x n) (take (i + 1) xs))
      (λ n l. sym (exists_more (λ x. q x n) xs i d h ∙ ap (λ (t : Bool). exists (λ x. q x n) (take i xs) || t) (f n)))

  -- an element that leads nowhere adds nothing
  set_left : ((n : ℕ) → q (get_or xs i d) n ≡ false)
      → set_of (λ n. exists (λ x. q x n) (take i xs)) ≡ set_of (λ n. exists (λ x. q x n) (take (i + 1) xs))
  set_left f =
      set_ext (λ n. exists (λ x. q x n) (take i xs)) (λ n. exists (λ x. q x n) (take (i + 1) xs))
      (λ n l.
      sym (exists_more (λ x. q x n) xs i d h ∙ ap (λ (t : Bool). exists (λ x. q x n) (take i xs) || t) (f n) ∙ or-false (exists (λ x. q x n) (take i xs))))

-- holders: elements that have a region each, and a test

module _ {A : Type 0} (region : A → ℕ) (provides : A → Bool) where
  -- the element brings what it provides to region r
  abbrev brings : A → ℕ → Bool
  brings x r = eqb (region x) r && provides x

  -- the regions to which some element of the list brings it
  unfoldable pub held : List A → ℕ
  held xs = set_of (λ r. exists (λ x. brings x r) xs)

  -- no element brings it anywhere
  pub held_none : 0 ≡ held []
  unfolding held
  held_none = sym set_none

  module _ (xs : List A) (i : ℕ) (d : A) (h : i < length xs) where
    -- an element that provides it adds its region
    pub held_took : provides (get_or xs i d) ≡ true → bit_or (held (take i xs)) (singleton (region (get_or xs i d))) ≡ held (take (i + 1) xs)
    unfolding held
    held_took e =
        set_took brings xs i d h (region (get_or xs i d))
        (λ n. ap (λ (t : Bool). eqb (region (get_or xs i d)) n && t) e ∙ and-true (eqb (region (get_or xs i d)) n))

    -- an element that does not adds nothing
    pub held_left : provides (get_or xs i d) ≡ false → held (take i xs) ≡ held (take (i + 1) xs)
    unfolding held
    held_left e =
        set_left brings xs i d h
        (λ n. ap (λ (t : Bool). eqb (region (get_or xs i d)) n && t) e ∙ and-false (eqb (region (get_or xs i d)) n))

-- predecessors: elements that lead from a region to a region each, and a test

module _ {A : Type 0} (source target : A → ℕ) (passes : A → Bool) where
  -- the element leads to region s from region r
  abbrev leads : ℕ → A → ℕ → Bool
  leads s x r = (eqb (source x) r && eqb (target x) s) && passes x

  -- the regions from which some element of the list leads to region s
  abbrev before : List A → ℕ → ℕ
  before xs s = set_of (λ r. exists (λ x. leads s x r) xs)

  -- for each region the regions from which some element of the list leads to it
  unfoldable pub led : List A → List ℕ
  led xs = map (before xs) (count_from 0 regions)

  -- no element leads anywhere
  pub led_none : map (λ s. 0) (count_from 0 regions) ≡ led []
  unfolding led
  led_none = counted_same (λ s. 0) (before []) 0 regions (λ s l. sym set_none)

  module _ (xs : List A) (i : ℕ) (d : A) (h : i < length xs) where
    -- an element that passes adds its source to those that lead to its target
    pub led_took : {sets : List ℕ} {s x : ℕ} → sets ≡ led (take i xs) → s ≡ target (get_or xs i d) → x ≡ singleton (source (get_or xs i d)) → s < regions
        → passes (get_or xs i d) ≡ true → set sets s (bit_or (get_or sets s 0) x) ≡ led (take (i + 1) xs)
    unfolding led
    led_took {sets} {s} {x} p f t l e =
        let c = get_or xs i d in
        let had : ℕ → ℕ → Bool = λ r m. exists (λ x. leads m x r) (take i xs) in
        sets_more had (λ r m. exists (λ x. leads m x r) (take (i + 1) xs)) (source c) p t l
        (λ n.
        exists_more (λ x. leads s x n) xs i d h
        ∙ ap (λ (t : Bool). had n s || t) (rw (e, eq-eqb (target c) s (sym f)) (and-true (eqb (source c) n && true) ∙ and-true (eqb (source c) n))))
        (λ n m k.
        exists_more (λ x. leads m x n) xs i d h
        ∙ ap (λ (t : Bool). had n m || t) (rw (ne_eqb (target c) m (λ q. k (sym q ∙ sym f)), and-false (eqb (source c) n))) ∙ or-false (had n m))

    -- an element that does not adds nothing
    pub led_left : passes (get_or xs i d) ≡ false → led (take i xs) ≡ led (take (i + 1) xs)
    unfolding led
    led_left e =
        let c = get_or xs i d in
        counted_same (before (take i xs)) (before (take (i + 1) xs)) 0 regions
        (λ s l. set_left (leads s) xs i d h (λ n. rw e (and-false (eqb (source c) n && eqb (target c) s))))

-- the loops over the bundles and the connections of a valid record: what has been gathered of the first i, as one more comes in

module _ (g : Graph) (v : Valid g) (item : Item) {items : List StoredBundle} (s : items ≡ map store_bundle (meaning g).bundles) where
  -- the holders among the first i bundles
  abbrev pub holders_to : ℕ → ℕ
  holders_to i = held (λ b. b.region) (provides item) (take i (meaning g).bundles)

  module _ {i x : ℕ} (l : i < length items) (w : x ≡ holders_to i) (e : StoredBundle) {b : Bool} (f : b ≡ provides item (bundle_in (get_or items i e))) where
    provides_at : {t : Bool} → b ≡ t → provides item (get_or (meaning g).bundles i no_bundle) ≡ t
    provides_at q = ap (provides item) (sym (bundle_means_at g v s i e l)) ∙ sym f ∙ q

    pub holder_took : {y : ℕ} → b ≡ true → y ≡ singleton (get_or items i e).region → bit_or x y ≡ holders_to (i + 1)
    holder_took t q =
        ap₂ bit_or w (q ∙ ap (λ (a : Bundle). singleton a.region) (bundle_means_at g v s i e l))
        ∙ held_took (λ b. b.region) (provides item) (meaning g).bundles i no_bundle (omega (arith, stored_length store_bundle (meaning g).bundles s))
        (provides_at t)

    pub holder_left : b ≡ false → x ≡ holders_to (i + 1)
    holder_left t =
        w
        ∙ held_left (λ b. b.region) (provides item) (meaning g).bundles i no_bundle (omega (arith, stored_length store_bundle (meaning g).bundles s))
        (provides_at t)

  pub holders_all : {i x : ℕ} → length items ≤ i → x ≡ holders_to i → x ≡ holder_set (meaning g) item
  unfolding held
  holders_all {i} l w =
      rw (take_all i (meaning g).bundles (omega (arith, stored_length store_bundle (meaning g).bundles s))) at w

module _ (g : Graph) (v : Valid g) {items : List StoredConnection} (s : items ≡ map store_connection (meaning g).connections) where
  here_inside : {i : ℕ} → i < length items → i < length (meaning g).connections
  here_inside l = omega (arith, stored_length store_connection (meaning g).connections s)

  -- the target of a connection is a region
  pub target_region : (i : ℕ) (e : StoredConnection) → i < length items → (get_or items i e).target < regions
  target_region i e l =
      let cs = (meaning g).connections in
      rw (stored_at store_connection cs s i e no_connection l)
      (member_all (λ r. r < regions) (get_or cs i no_connection).target (meaning g).regions v.good.regions_legal.each
      (all_at (LegalConnection (meaning g).regions) cs i no_connection (here_inside l) v.good.connections_legal.each).target)

  module _ (item : Item) where
    -- for each region those from which one of the first i connections leads to it
    abbrev pub sets_to : ℕ → List ℕ
    sets_to i = led (λ c. c.source) (λ c. c.target) (λ c. passes item c.filter) (take i (meaning g).connections)

    module _ {i : ℕ} {sets : List ℕ} (l : i < length items) (w : sets ≡ sets_to i) (e : StoredConnection) {b : Bool}
        (f : b ≡ passes item (connection_in (get_or items i e)).filter) where
      passes_at : {t : Bool} → b ≡ t → passes item (get_or (meaning g).connections i no_connection).filter ≡ t
      passes_at q = ap (λ (c : Connection). passes item c.filter) (sym (connection_means_at g v s i e l)) ∙ sym f ∙ q

      pub leader_took : {y : ℕ} → b ≡ true → y ≡ singleton (get_or items i e).source
          → (let t = (get_or items i e).target in set sets t (bit_or (get_or sets t 0) y) ≡ sets_to (i + 1))
      leader_took t q =
          let m = connection_means_at g v s i e l in
          led_took (λ c. c.source) (λ c. c.target) (λ c. passes item c.filter) (meaning g).connections i no_connection (here_inside l) w
          (ap (λ (c : Connection). c.target) m) (q ∙ ap (λ (c : Connection). singleton c.source) m) (target_region i e l) (passes_at t)

      pub leader_left : b ≡ false → sets ≡ sets_to (i + 1)
      leader_left t =
          w ∙ led_left (λ c. c.source) (λ c. c.target) (λ c. passes item c.filter) (meaning g).connections i no_connection (here_inside l) (passes_at t)

    pub sets_all : {i : ℕ} {sets : List ℕ} → length items ≤ i → sets ≡ sets_to i → sets ≡ predecessor_sets (meaning g) item
    unfolding led predecessor_sets
    sets_all {i} l w =
        rw (take_all i (meaning g).connections (omega (arith, stored_length store_connection (meaning g).connections s))) at w

  -- whether some connection passes a test: none of the first i does
  module _ (p : Connection → Bool) where
    module _ {i : ℕ} (l : i < length items) (e : StoredConnection) {b : Bool} (f : b ≡ p (connection_in (get_or items i e))) where
      test_at : {t : Bool} → b ≡ t → p (get_or (meaning g).connections i no_connection) ≡ t
      test_at q = ap p (sym (connection_means_at g v s i e l)) ∙ sym f ∙ q

      pub some_here : exists p (meaning g).connections ≡ exists p (drop i (meaning g).connections) → b ≡ true → true ≡ exists p (meaning g).connections
      some_here w t = exists_here p (meaning g).connections i no_connection (here_inside l) w (test_at t)

      pub some_later : exists p (meaning g).connections ≡ exists p (drop i (meaning g).connections) → b ≡ false
          → exists p (meaning g).connections ≡ exists p (drop (i + 1) (meaning g).connections)
      some_later w t = exists_later p (meaning g).connections i no_connection (here_inside l) w (test_at t)

    pub some_end : {i : ℕ} → length items ≤ i → exists p (meaning g).connections ≡ exists p (drop i (meaning g).connections)
        → false ≡ exists p (meaning g).connections
    some_end {i} l w = exists_end p (meaning g).connections i w (omega (arith, stored_length store_connection (meaning g).connections s))

-- whether a bundle is at a location
pub place_some : (l : ℕ) (bs : List Bundle) → is_some (place_of bs l) ≡ exists (at_location l) bs
place_some l [] = refl
place_some l (b ∷ bs) = go (at_location l b) (place_some l bs)
  where
    go : (t : Bool) → is_some (place_of bs l) ≡ exists (at_location l) bs
        → is_some (pick t (Some b.region) (place_of bs l)) ≡ (t || exists (at_location l) bs)
    go true h = refl
    go false h = h
