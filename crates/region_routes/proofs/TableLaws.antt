-- Tables: what an entry says, what a table says of the model whose table it is, and what a loop puts it together from.
use Rattle.std.specs.Prelude.{Option}
use mathlib.Core.Path.{◌≡◌, refl, sym, ap, ap₂, ◌∙◌}
use mathlib.Core.Bool.{Bool, true, false, ◌&&◌, ◌||◌, and-false, or-true, or-false}
use mathlib.Core.List.{List, [], ◌∷◌, map}
use Prim.Native.Nat.{ℕ, zero, suc, ◌+◌, ◌≤◌, ◌<◌, ◌^◌}
use native.Mathlib.Omega.{arith}
use lib.Dec.{eqb, ltb}
use lib.ListN.{length, get_or, take, replicate, length-map}
use borrow.Author.Tests.{ne_eqb}
use Rattle.region_graph.specs.Size.{regions, most_provided, most_listed}
use Rattle.region_graph.specs.Lists.{exists, All, member, concat_map}
use Rattle.region_graph.specs.Sets.{set_of}
use Rattle.region_graph.specs.Model.{Model, PackageEntry, Bundle, Filter, Part, Connection, Word, SortedPart, LegalEntry, entry_before}
use Rattle.region_graph.specs.Model.{Legal, LegalBundle, LegalFilter, LegalConnection}
use Rattle.region_graph.specs.Calls.{of_listed}
use Rattle.region_graph.specs.Items.{provides, passes, crosses}
use Rattle.region_graph.specs.Record.{store_bundle, store_connection, bundle_in, connection_in, no_bundle, no_connection}
use Rattle.region_graph.specs.Places.{ShortBundle, ShortConnection, BundleStored, ConnectionStored}
use Rattle.region_graph.specs.Promise.{place_of, holder_set, predecessor_sets}
use Rattle.region_graph.specs.declared.bundles.StoredBundle.{StoredBundle}
use Rattle.region_graph.specs.declared.connections.StoredConnection.{StoredConnection}
use Rattle.region_graph.proofs.Lists.{exists_append, all_at, all_map, member_all, eqb_sym, false_true}
use Rattle.region_graph.proofs.Bits.{set_below_lt, set_none}
use Rattle.region_graph.proofs.Storing.{stored_as, bundle_back, connection_back, bundles_each, connections_each}
use Rattle.region_graph.proofs.Storing.{short_bundle, short_connection, short_connections}
use Rattle.region_routes.specs.Hooks.{item, is_installed, all_installed}
use Rattle.region_routes.specs.Search.{RegionSets}
use Rattle.region_routes.specs.Tables.{width, everything_number, packed, number_in, place_in, ends, source_in, target_in, provided_numbers}
use Rattle.region_routes.specs.Tables.{listed_numbers, part_numbers, passed, offer, passage, offers, passages, held_in, step_in, step_or}
use Rattle.region_routes.specs.Tables.{predecessors_by, place_at, all_placed, most_entries, NumberTables}
use Rattle.region_routes.proofs.SetLaws.{counted_sets}
use Rattle.region_routes.proofs.TableLoops.{Source, stored_inside, source_at, gathering_room}

-- what an entry says

pub packed_number : (n p : ℕ) → p < width → number_in (packed n p) ≡ n
packed_number n p h = omega arith

pub packed_place : (n p : ℕ) → p < width → place_in (packed n p) ≡ p
packed_place n p h = omega arith

module _ {a b : ℕ} (h : a < regions) (k : b < regions) where
  pub packed_of : (n : ℕ) → number_in (packed n (ends a b)) ≡ n
  packed_of n = omega arith

  pub packed_source : (n : ℕ) → source_in (packed n (ends a b)) ≡ a
  packed_source n = rw (packed_place n (ends a b) (omega arith)) (omega arith)

  pub packed_target : (n : ℕ) → target_in (packed n (ends a b)) ≡ b
  packed_target n = rw (packed_place n (ends a b) (omega arith)) (omega arith)

-- tests of the entries of each element
module _ {A : Type 0} (f : A → List ℕ) where
  exists_gather : (p : ℕ → Bool) (xs : List A) → exists p (concat_map f xs) ≡ exists (λ x. exists p (f x)) xs
  exists_gather p [] = refl
  exists_gather p (x ∷ xs) = exists_append p (f x) (concat_map f xs) ∙ ap (λ (b : Bool). exists p (f x) || b) (exists_gather p xs)

  -- tests that agree on each element
  exists_each : (P : A → Type 0) (p q : A → Bool) → ((x : A) → P x → p x ≡ q x) → (xs : List A) → All P xs → exists p xs ≡ exists q xs
  exists_each P p q e [] h = refl
  exists_each P p q e (x ∷ xs) h = ap₂ ◌||◌ (e x h.0) (exists_each P p q e xs h.1)

-- a test that a fixed one and one of each element make up
both : (a b c : Bool) → ((a && b) || (a && c)) ≡ (a && (b || c))
both true b c = refl
both false b c = refl

exists_either : (a p q : ℕ → Bool) (xs : List ℕ) → (exists (λ x. a x && p x) xs || exists (λ x. a x && q x) xs) ≡ exists (λ x. a x && (p x || q x)) xs
exists_either a p q [] = refl
exists_either a p q (x ∷ xs) = step (a x) (p x) (q x) (exists (λ x. a x && p x) xs) (exists (λ x. a x && q x) xs) (exists_either a p q xs)
  where
    step : (a p q t u : Bool) {v : Bool} → (t || u) ≡ v → (((a && p) || t) || ((a && q) || u)) ≡ ((a && (p || q)) || v)
    step true true q t u e = refl
    step true false true t u e = or-true t
    step true false false t u e = e
    step false p q t u e = e

exists_fixed : (a : Bool) (p : ℕ → Bool) (xs : List ℕ) → exists (λ x. a && p x) xs ≡ (a && exists p xs)
exists_fixed a p [] = sym (and-false a)
exists_fixed a p (x ∷ xs) = ap (λ (t : Bool). (a && p x) || t) (exists_fixed a p xs) ∙ both a (p x) (exists p xs)

exists_map : (f : ℕ → ℕ) (p : ℕ → Bool) (xs : List ℕ) → exists p (map f xs) ≡ exists (λ x. p (f x)) xs
exists_map f p [] = refl
exists_map f p (x ∷ xs) = ap (λ (t : Bool). p (f x) || t) (exists_map f p xs)

-- of a kind other than packages an item is told by its number
number_provided : (k n : ℕ) → eqb k 1 ≡ false → (b : Bundle) → member n (provided_numbers k b) ≡ provides (item k n 0) b
number_provided zero n q b = or-false (eqb n b.location)
number_provided (suc zero) n q b = false_true (sym q)
number_provided (suc (suc zero)) n q b = refl
number_provided (suc (suc (suc k))) n q b = refl

-- offers

module _ (m : Model) (h : Legal m) where
  -- the number and the region of a bundle's entries
  offer_says : (k n r : ℕ) (b : Bundle) → LegalBundle m.regions b
      → exists (λ e. eqb (place_in e) r && eqb (number_in e) n) (offer k b) ≡ (eqb b.region r && member n (provided_numbers k b))
  offer_says k n r b l =
      let i : b.region < regions = member_all (λ x. x < regions) b.region m.regions h.regions_legal.each l.region in
      exists_map (λ x. packed x b.region) (λ e. eqb (place_in e) r && eqb (number_in e) n) (provided_numbers k b)
      ∙ ap (λ (p : ℕ → Bool). exists p (provided_numbers k b))
      (λ j x. eqb (packed_place x b.region (omega arith) j) r && (ap (λ (y : ℕ). eqb y n) (packed_number x b.region (omega arith)) ∙ eqb_sym x n) j)
      ∙ exists_fixed (eqb b.region r) (eqb n) (provided_numbers k b)

  -- the regions that the table names for a number are those that hold the item, where numbers tell items apart
  held_offers : (k n : ℕ) → eqb k 1 ≡ false → held_in (offers k m.bundles) n ≡ holder_set m (item k n 0)
  held_offers k n q =
      ap set_of
      (λ j r.
      (exists_gather (offer k) (λ e. eqb (place_in e) r && eqb (number_in e) n) m.bundles
      ∙ exists_each (offer k) (LegalBundle m.regions) (λ b. exists (λ e. eqb (place_in e) r && eqb (number_in e) n) (offer k b))
      (λ b. eqb b.region r && provides (item k n 0) b)
      (λ b l. offer_says k n r b l ∙ ap (λ (t : Bool). eqb b.region r && t) (number_provided k n q b)) m.bundles h.bundles_legal.each) j)

  few_provided : (k : ℕ) (b : Bundle) → LegalBundle m.regions b → length (provided_numbers k b) ≤ most_provided
  few_provided zero b l = omega arith
  few_provided (suc zero) b l = rw length-map l.packages.few
  few_provided (suc (suc zero)) b l = l.services.few
  few_provided (suc (suc (suc k))) b l = omega arith

  pub offers_few : (k : ℕ) → All (λ b. length (offer k b) ≤ most_provided) m.bundles
  offers_few k =
      all_map (LegalBundle m.regions) (λ b. length (offer k b) ≤ most_provided) (λ b l. rw length-map (few_provided k b l)) m.bundles
      h.bundles_legal.each

  -- the place of a location in the table of the bundles is its region
  place_offers : (l : ℕ) → place_at (offers 0 m.bundles) l ≡ place_of m.bundles l
  place_offers l = go m.bundles h.bundles_legal.each
    where
      go : (bs : List Bundle) → All (LegalBundle m.regions) bs → place_at (offers 0 bs) l ≡ place_of bs l
      go [] a = refl
      go (b ∷ bs) a =
          let i : b.region < regions = member_all (λ x. x < regions) b.region m.regions h.regions_legal.each a.0.region in
          rw (packed_number b.location b.region (omega arith), packed_place b.location b.region (omega arith), go bs a.1)

  -- passages

  pub source_inside : {c : Connection} → LegalConnection m.regions c → c.source < regions
  source_inside {c} l = member_all (λ x. x < regions) c.source m.regions h.regions_legal.each l.source

  pub target_inside : {c : Connection} → LegalConnection m.regions c → c.target < regions
  target_inside {c} l = member_all (λ x. x < regions) c.target m.regions h.regions_legal.each l.target

  -- what a part passes, where numbers tell items apart
  part_says : (n : ℕ) (p : Part ℕ) → SortedPart ltb Word p → exists (λ x. eqb x everything_number || eqb x n) (passed p) ≡ of_listed (member n) p
  part_says n (Part.listed xs) l = go xs l.each
    where
      go : (ys : List ℕ) → All Word ys → exists (λ x. eqb x everything_number || eqb x n) ys ≡ member n ys
      go [] a = refl
      go (y ∷ ys) a = rw (ne_eqb y everything_number (λ e. omega (arith, a.0)), eqb_sym y n, go ys a.1)
  part_says n Part.everything l = refl

  number_passes : (k n : ℕ) → eqb k 1 ≡ false → (f : Filter) → LegalFilter f
      → exists (λ x. eqb x everything_number || eqb x n) (passed (part_numbers k f)) ≡ passes (item k n 0) f
  number_passes zero n q f l = part_says n (Part.listed f.bundles) l.bundles
  number_passes (suc zero) n q f l = false_true (sym q)
  number_passes (suc (suc zero)) n q f l = part_says n f.services l.services
  number_passes (suc (suc (suc k))) n q f l = refl

  -- the numbers and the two ends of a connection's entries
  passage_says : (k n r s : ℕ) → eqb k 1 ≡ false → (c : Connection) → LegalConnection m.regions c
      → exists (λ e. (eqb (source_in e) r && eqb (target_in e) s) && (eqb (number_in e) everything_number || eqb (number_in e) n)) (passage k c)
      ≡ ((eqb c.source r && eqb c.target s) && passes (item k n 0) c.filter)
  passage_says k n r s q c l =
      let a = source_inside l in
      let b = target_inside l in
      let xs = passed (part_numbers k c.filter) in
      exists_map (λ x. packed x (ends c.source c.target))
      (λ e. (eqb (source_in e) r && eqb (target_in e) s) && (eqb (number_in e) everything_number || eqb (number_in e) n)) xs
      ∙ ap (λ (p : ℕ → Bool). exists p xs)
      (λ j x. (eqb (packed_source a b x j) r && eqb (packed_target a b x j) s) && (eqb (packed_of a b x j) everything_number || eqb (packed_of a b x j) n))
      ∙ exists_fixed (eqb c.source r && eqb c.target s) (λ x. eqb x everything_number || eqb x n) xs
      ∙ ap (λ (t : Bool). (eqb c.source r && eqb c.target s) && t) (number_passes k n q c.filter l.filter)

  -- an entry for all or for the number goes from and to where a connection that passes the item goes
  crosses_passages : (k n : ℕ) → eqb k 1 ≡ false → (r s : ℕ)
      → step_or (step_in (passages k m.connections) everything_number) (passages k m.connections) n r s ≡ crosses m (item k n 0) r s
  crosses_passages k n q r s =
      let test : ℕ → Bool = λ e. (eqb (source_in e) r && eqb (target_in e) s) && (eqb (number_in e) everything_number || eqb (number_in e) n) in
      exists_either (λ e. eqb (source_in e) r && eqb (target_in e) s) (λ e. eqb (number_in e) everything_number) (λ e. eqb (number_in e) n)
      (passages k m.connections)
      ∙ exists_gather (passage k) test m.connections
      ∙ exists_each (passage k) (LegalConnection m.regions) (λ c. exists test (passage k c))
      (λ c. (eqb c.source r && eqb c.target s) && passes (item k n 0) c.filter) (passage_says k n r s q) m.connections h.connections_legal.each

  stepped_passages : (k n : ℕ) → eqb k 1 ≡ false
      → predecessors_by (step_or (step_in (passages k m.connections) everything_number) (passages k m.connections) n) ≡ predecessor_sets m (item k n 0)
  unfolding predecessors_by predecessor_sets
  stepped_passages k n q = ap predecessors_by (λ j r s. crosses_passages k n q r s j)

  few_passed : (k : ℕ) (f : Filter) → LegalFilter f → length (passed (part_numbers k f)) ≤ most_listed
  few_passed zero f l = l.bundles.few
  few_passed (suc zero) f l = entries f.packages l.packages
    where
      entries : (p : Part PackageEntry) → SortedPart entry_before LegalEntry p → length (passed (listed_numbers p)) ≤ most_listed
      entries (Part.listed es) l = rw length-map l.few
      entries Part.everything l = omega arith
  few_passed (suc (suc zero)) f l = numbers f.services l.services
    where
      numbers : (p : Part ℕ) → SortedPart ltb Word p → length (passed p) ≤ most_listed
      numbers (Part.listed xs) l = l.few
      numbers Part.everything l = omega arith
  few_passed (suc (suc (suc k))) f l = omega arith

  pub passages_few : (k : ℕ) → All (λ c. length (passage k c) ≤ most_listed) m.connections
  passages_few k =
      all_map (LegalConnection m.regions) (λ c. length (passage k c) ≤ most_listed) (λ c l. rw length-map (few_passed k c.filter l.filter))
      m.connections h.connections_legal.each

  -- the stored bundles: what a table of them is put together from
  module _ (f : Bundle → List ℕ) where
    abbrev pub BundlesFrom : List StoredBundle → Type 0
    BundlesFrom stored = Source store_bundle bundle_in f most_provided stored m.bundles

    pub bundles_from : {stored : List StoredBundle} → All (λ b. length (f b) ≤ most_provided) m.bundles → stored ≡ map store_bundle m.bundles
        → BundlesFrom stored
    bundles_from few s = record {
      stored_is = s;
      back = bundles_each m.bundles;
      few = few;
      fits = omega (arith, h.bundles_legal.few);
    }

    -- what is asked of the one of which entries are put: it is stored in the one way, and there is room
    pub bundles_asked : {stored : List StoredBundle} {out : List ℕ} {i : ℕ} → BundlesFrom stored → out ≡ concat_map f (take i m.bundles)
        → (e : StoredBundle) → i < length stored
        → BundleStored (get_or stored i e) × (length out + length (f (bundle_in (get_or stored i e))) ≤ most_entries)
    bundles_asked {i = i} s g e l =
        let b = get_or m.bundles i no_bundle in (
          stored_as store_bundle bundle_in ShortBundle (λ b s. bundle_back b) b (source_at s i e no_bundle l)
              (short_bundle (all_at (LegalBundle m.regions) m.bundles i no_bundle (stored_inside s l) h.bundles_legal.each)),
          gathering_room s g e no_bundle l,
        )

  -- the stored connections
  module _ (f : Connection → List ℕ) where
    abbrev pub ConnectionsFrom : List StoredConnection → Type 0
    ConnectionsFrom stored = Source store_connection connection_in f most_listed stored m.connections

    pub connections_from : {stored : List StoredConnection} → All (λ c. length (f c) ≤ most_listed) m.connections
        → stored ≡ map store_connection m.connections → ConnectionsFrom stored
    connections_from few s = record {
      stored_is = s;
      back = connections_each m.connections (short_connections h);
      few = few;
      fits = omega (arith, h.connections_legal.few);
    }

    -- here a connection's ends are regions, too
    pub connections_asked : {stored : List StoredConnection} {out : List ℕ} {i : ℕ} → ConnectionsFrom stored
        → out ≡ concat_map f (take i m.connections) → (e : StoredConnection) → i < length stored
        → ConnectionStored (get_or stored i e) × ((((get_or stored i e).source < regions) × ((get_or stored i e).target < regions))
        × (length out + length (f (connection_in (get_or stored i e))) ≤ most_entries))
    connections_asked {i = i} s g e l =
        let c = get_or m.connections i no_connection in
        let legal = all_at (LegalConnection m.regions) m.connections i no_connection (stored_inside s l) h.connections_legal.each in (
          stored_as store_connection connection_in ShortConnection connection_back c (source_at s i e no_connection l) (short_connection legal),
          (rw (source_at s i e no_connection l) (source_inside {c = c} legal, target_inside {c = c} legal), gathering_room s g e no_connection l),
        )

-- the places in the table of the bundles are the regions of the locations
pub place_table : {m : Model} → Legal m → {es : List ℕ} → es ≡ offers 0 m.bundles → (l : ℕ) → place_at es l ≡ place_of m.bundles l
place_table {m} h e l = ap (λ (es : List ℕ). place_at es l) e ∙ place_offers m h l

-- each listener has a place where each is installed
pub placed_installed : (m : Model) {place : ℕ → Option ℕ} → ((l : ℕ) → place l ≡ place_of m.bundles l) → (ls : List ℕ)
    → all_placed place ls ≡ all_installed m ls
placed_installed m e [] = refl
placed_installed m e (l ∷ ls) = ap₂ ◌&&◌ (ap is_installed (e l)) (placed_installed m e ls)

-- the sets that the tables of a model give are the model's
module _ {m : Model} {kind : ℕ} {offered passing : List ℕ} (t : NumberTables m kind offered passing) (n : ℕ) where
  pub held_table : held_in offered n ≡ holder_set m (item kind n 0)
  held_table = ap (λ (es : List ℕ). held_in es n) t.tables.offered_is ∙ held_offers m t.tables.legal kind n t.by_number

  pub preceding_table : predecessors_by (step_or (step_in passing everything_number) passing n) ≡ predecessor_sets m (item kind n 0)
  preceding_table =
      ap (λ (es : List ℕ). predecessors_by (step_or (step_in es everything_number) es n)) t.tables.passing_is
      ∙ stepped_passages m t.tables.legal kind n t.by_number

pub held_small : (es : List ℕ) (n : ℕ) → held_in es n < 2 ^ regions
held_small es n = set_below_lt regions (λ r. exists (λ e. eqb (place_in e) r && eqb (number_in e) n) es)

pub preceding_sets : (step : ℕ → ℕ → Bool) → RegionSets (predecessors_by step)
unfolding predecessors_by
preceding_sets step = counted_sets (λ s r. step r s)

-- no step goes anywhere
pub preceding_none : replicate regions 0 ≡ predecessors_by (λ r s. false)
unfolding predecessors_by
preceding_none = rw set_none
