-- The record that stores a model and the model that a record means: each gives the other back.
use mathlib.Core.Path.{◌≡◌, refl, sym, ap, ◌∙◌, subst}
use mathlib.Core.Bool.{Bool, true, false, not, ◌&&◌, ◌||◌, or_comm}
use mathlib.Core.List.{List, [], ◌∷◌, ◌++◌, map}
use Prim.Native.Nat.{ℕ, zero, suc, ◌+◌, ◌-◌, ◌≤◌, ◌<◌, ◌^◌}
use native.Mathlib.Omega.{arith}
use lib.Bits.{bit_and, bit_or}
use lib.Dec.{eqb, ltb}
use borrow.Author.Tests.{lt-ltb, eq-eqb, ne_eqb}
use lib.ListN.{length, get_or, take, replicate, length-map}
use lib.Seq.{take_at}
use Rattle.region_graph.specs.Size.{regions, most_bundles, most_connections, most_listed, most_provided, everything_sign}
use Rattle.region_graph.specs.Refusals.{not_refused, refusal_number, answer_number}
use Rattle.region_graph.specs.Lists.{All, member, keep, insert_by, count_from}
use Rattle.region_graph.specs.Sets.{bit, has, singleton, members, set_of}
use Rattle.region_graph.specs.Model.{Model, Package, PackageEntry, packages, entries, Bundle, Part, Connection, nothing}
use Rattle.region_graph.specs.Model.{Sorted, SortedPart, Legal, LegalBundle, LegalConnection}
use Rattle.region_graph.specs.Model.{Word, Version, PackageFits, EntryFits, LegalEntry, entry_before}
use Rattle.region_graph.specs.Calls.{Call, number, accepted}
use Rattle.region_graph.specs.Record.{number_places, Stored, Valid, store, meaning, no_bundle, no_connection}
use Rattle.region_graph.specs.Record.{Numbers, Provided, store_numbers, numbers_of, store_provided, provided_of, store_part, part_in}
use Rattle.region_graph.specs.Record.{store_packages, packages_of, store_entries, entries_of, store_package_part, package_part_in}
use Rattle.region_graph.specs.Record.{store_bundle, bundle_in, store_bundles, bundles_of}
use Rattle.region_graph.specs.Record.{store_connection, connection_in, store_connections, connections_of}
use Rattle.region_graph.specs.Places.{put_into, ShortPart, ShortBundle, ShortConnection}
use Rattle.region_graph.specs.Places.{NumbersStored, ProvidedStored, PackagesStored, EntriesStored, PartStored, PackagePartStored}
use Rattle.region_graph.specs.Places.{BundleStored, BundlesStored, ConnectionStored, ConnectionsStored}
use Rattle.region_graph.specs.declared.packages.Packages.{Packages}
use Rattle.region_graph.specs.declared.packages.Entries.{Entries}
use Rattle.region_graph.specs.declared.bundles.StoredBundle.{StoredBundle}
use Rattle.region_graph.specs.declared.bundles.Bundles.{Bundles}
use Rattle.region_graph.specs.declared.connections.StoredConnection.{StoredConnection}
use Rattle.region_graph.specs.declared.connections.Connections.{Connections}
use Rattle.region_graph.specs.declared.Graph.{Graph}
use Rattle.region_graph.specs.Promise.{Empty, Changed, changed, Follows}
use Rattle.region_graph.specs.declared.refusals.Refusal.{Refusal}
use Rattle.std.specs.Prelude.{Result, Ok, Err}
use Rattle.region_graph.proofs.Lists.{pick_yes, pick_no, all_map, all_made, all_at, keep_same, member_kept, member_counted, exists_insert, eqb_sym}
use Rattle.region_graph.proofs.Ascending.{members_back}
use Rattle.region_graph.proofs.Bits.{has_set, set_ext, set_join, set_leave}
use Rattle.region_graph.proofs.Legal.{legal_accepted, legal_nothing, PartAll, Words}
use Rattle.region_graph.proofs.Arrays.{Filled, filled_none, filled_at, filled_inside, drop_replicate}
use Rattle.region_graph.proofs.Columns.{packages_whole, entries_whole}

-- the used places hold the list
took : {A B : Type 0} (f : A → B) (none : B) (n : ℕ) (xs : List A) → take (length xs) (map f xs ++ replicate n none) ≡ map f xs
took f none n xs = take_at (map f xs) (replicate n none) (length xs) (length-map xs f)

pub map_id : {A : Type 0} (xs : List A) → map (λ x. x) xs ≡ xs
map_id [] = refl
map_id {A} (x ∷ xs) = ap (λ (l : List A). x ∷ l) (map_id xs)

pub map_back : {A B : Type 0} (f : A → B) (g : B → A) (xs : List A) → All (λ x. g (f x) ≡ x) xs → map g (map f xs) ≡ xs
map_back f g [] h = refl
map_back f g (x ∷ xs) h = λ i. h.0 i ∷ map_back f g xs h.1 i

-- a list in places, however many
pub places_back : (size : ℕ) (xs : List ℕ) → take (length xs) (number_places size xs) ≡ xs
places_back size xs = took (λ x. x) 0 (size - length xs) xs ∙ map_id xs

pub numbers_back : (xs : List ℕ) → numbers_of (store_numbers xs) ≡ xs
unfolding numbers_of store_numbers
numbers_back xs = places_back most_listed xs

pub provided_back : (xs : List ℕ) → provided_of (store_provided xs) ≡ xs
unfolding provided_of store_provided
provided_back xs = places_back most_provided xs

pub packages_back : (ps : List Package) → packages_of (store_packages ps) ≡ ps
unfolding packages_of store_packages
packages_back ps =
    let rest = most_provided - length ps in
    (λ i. packages (took (λ (p : Package). p.number) 0 rest ps i) (took (λ (p : Package). p.version) 0 rest ps i)) ∙ packages_whole ps

pub entries_back : (es : List PackageEntry) → entries_of (store_entries es) ≡ es
unfolding entries_of store_entries
entries_back es =
    let rest = most_listed - length es in
    (λ i. entries (took (λ (e : PackageEntry). e.number) 0 rest es i) (took (λ (e : PackageEntry). e.lowest) 0 rest es i)
    (took (λ (e : PackageEntry). e.highest) 0 rest es i))
    ∙ entries_whole es

-- no list that its places take has the sign for its count
pub no_sign : {n : ℕ} → n ≤ most_listed → eqb n everything_sign ≡ false
no_sign {n} h = ne_eqb n everything_sign (λ e. omega arith)

pub part_back : (p : Part ℕ) → ShortPart p → part_in (store_part p) ≡ p
unfolding store_numbers
part_back (Part.listed xs) h = rw (no_sign h) (ap Part.listed (numbers_back xs))
part_back Part.everything h = refl

pub package_part_back : (p : Part PackageEntry) → ShortPart p → package_part_in (store_package_part p) ≡ p
unfolding store_entries
package_part_back (Part.listed es) h = rw (no_sign h) (ap Part.listed (entries_back es))
package_part_back Part.everything h = refl

pub bundle_back : (b : Bundle) → bundle_in (store_bundle b) ≡ b
bundle_back b = λ i. record {
  location = b.location;
  region = b.region;
  packages = packages_back b.packages i;
  services = provided_back b.services i;
}

pub connection_back : (c : Connection) → ShortConnection c → connection_in (store_connection c) ≡ c
connection_back c h = λ i. record {
  source = c.source;
  target = c.target;
  filter = record {
    bundles = numbers_back c.filter.bundles i;
    packages = package_part_back c.filter.packages h.packages i;
    services = part_back c.filter.services h.services i;
  };
}

-- each of a list comes back
pub bundles_each : (bs : List Bundle) → All (λ b. bundle_in (store_bundle b) ≡ b) bs
bundles_each [] = tt
bundles_each (b ∷ bs) = (bundle_back b, bundles_each bs)

pub connections_each : (cs : List Connection) → All ShortConnection cs → All (λ c. connection_in (store_connection c) ≡ c) cs
connections_each cs h = all_map ShortConnection (λ c. connection_in (store_connection c) ≡ c) connection_back cs h

pub bundles_back : (bs : List Bundle) → bundles_of (store_bundles bs) ≡ bs
unfolding bundles_of store_bundles
bundles_back bs =
    ap (map bundle_in) (took store_bundle (store_bundle no_bundle) (most_bundles - length bs) bs) ∙ map_back store_bundle bundle_in bs (bundles_each bs)

pub connections_back : (cs : List Connection) → All ShortConnection cs → connections_of (store_connections cs) ≡ cs
unfolding connections_of store_connections
connections_back cs h =
    ap (map connection_in) (took store_connection (store_connection no_connection) (most_connections - length cs) cs)
    ∙ map_back store_connection connection_in cs (connections_each cs h)

-- what is stored from a short value is stored in the one way
module _ {A B : Type 0} (put : A → B) (out : B → A) (Good : A → Type 0) (back : (x : A) → Good x → out (put x) ≡ x) where
  pub stored_as : {b : B} (x : A) → b ≡ put x → Good x → Stored put out Good b
  stored_as {b} x e h =
      let f : out b ≡ x = ap out e ∙ back x h in
      record { stored = e ∙ ap put (sym f); good = subst Good (sym f) h }

-- the arrays of a stored record hold the lists that they mean
pub numbers_filled : (n : Numbers) → NumbersStored n → Filled (λ x. x) 0 most_listed n.items n.count (numbers_of n)
unfolding store_numbers
numbers_filled n s = record { shape = ap (λ (m : Numbers). m.items) s.stored; counted = ap (λ (m : Numbers). m.count) s.stored; room = s.good }

pub provided_filled : (n : Provided) → ProvidedStored n → Filled (λ x. x) 0 most_provided n.items n.count (provided_of n)
unfolding store_provided
provided_filled n s = record { shape = ap (λ (m : Provided). m.items) s.stored; counted = ap (λ (m : Provided). m.count) s.stored; room = s.good }

-- each column of packages, and of entries
module _ (p : Packages) (s : PackagesStored p) where
  pub numbers_column : Filled (λ q. q.number) 0 most_provided p.numbers p.count (packages_of p)
  unfolding store_packages
  numbers_column = record { shape = ap (λ (m : Packages). m.numbers) s.stored; counted = ap (λ (m : Packages). m.count) s.stored; room = s.good }

  pub versions_column : Filled (λ q. q.version) 0 most_provided p.versions p.count (packages_of p)
  unfolding store_packages
  versions_column = record { shape = ap (λ (m : Packages). m.versions) s.stored; counted = ap (λ (m : Packages). m.count) s.stored; room = s.good }

module _ (p : Entries) (s : EntriesStored p) where
  pub entry_numbers_column : Filled (λ e. e.number) 0 most_listed p.numbers p.count (entries_of p)
  unfolding store_entries
  entry_numbers_column =
      record { shape = ap (λ (m : Entries). m.numbers) s.stored; counted = ap (λ (m : Entries). m.count) s.stored; room = s.good }

  pub lowest_column : Filled (λ e. e.lowest) 0 most_listed p.lowest p.count (entries_of p)
  unfolding store_entries
  lowest_column = record { shape = ap (λ (m : Entries). m.lowest) s.stored; counted = ap (λ (m : Entries). m.count) s.stored; room = s.good }

  pub highest_column : Filled (λ e. e.highest) 0 most_listed p.highest p.count (entries_of p)
  unfolding store_entries
  highest_column = record { shape = ap (λ (m : Entries). m.highest) s.stored; counted = ap (λ (m : Entries). m.count) s.stored; room = s.good }

pub bundles_filled : (bs : Bundles) → BundlesStored bs
    → Filled store_bundle (store_bundle no_bundle) most_bundles bs.items bs.count (bundles_of bs)
unfolding store_bundles
bundles_filled bs s =
    record { shape = ap (λ (m : Bundles). m.items) s.stored; counted = ap (λ (m : Bundles). m.count) s.stored; room = s.good.few }

pub connections_filled : (cs : Connections) → ConnectionsStored cs
    → Filled store_connection (store_connection no_connection) most_connections cs.items cs.count (connections_of cs)
unfolding store_connections
connections_filled cs s =
    record { shape = ap (λ (m : Connections). m.items) s.stored; counted = ap (λ (m : Connections). m.count) s.stored; room = s.good.few }

-- the value at a place, and the lists in it, are stored too
pub bundle_stored : (bs : Bundles) → BundlesStored bs → (i : ℕ) (e : StoredBundle) → i < bs.count → BundleStored (get_or bs.items i e)
bundle_stored bs s i e l =
    let h = bundles_filled bs s in
    stored_as store_bundle bundle_in ShortBundle (λ b h. bundle_back b) (get_or (bundles_of bs) i no_bundle) (filled_at h i e no_bundle l)
    (all_at ShortBundle (bundles_of bs) i no_bundle (filled_inside h i l) s.good.each)

pub connection_stored : (cs : Connections) → ConnectionsStored cs → (i : ℕ) (e : StoredConnection) → i < cs.count
    → ConnectionStored (get_or cs.items i e)
connection_stored cs s i e l =
    let h = connections_filled cs s in
    stored_as store_connection connection_in ShortConnection connection_back (get_or (connections_of cs) i no_connection) (filled_at h i e no_connection l)
    (all_at ShortConnection (connections_of cs) i no_connection (filled_inside h i l) s.good.each)

-- the used places, as a list of stored values
pub bundles_each_stored : (bs : List Bundle) → All ShortBundle bs → All BundleStored (map store_bundle bs)
bundles_each_stored bs h =
    all_made store_bundle ShortBundle BundleStored (λ b k. stored_as store_bundle bundle_in ShortBundle (λ x _. bundle_back x) b refl k) bs h

pub connections_each_stored : (cs : List Connection) → All ShortConnection cs → All ConnectionStored (map store_connection cs)
connections_each_stored cs h =
    all_made store_connection ShortConnection ConnectionStored (λ c k. stored_as store_connection connection_in ShortConnection connection_back c refl k) cs h

pub packages_stored : (b : StoredBundle) → BundleStored b → PackagesStored b.packages
packages_stored b s = record { stored = ap (λ (x : StoredBundle). x.packages) s.stored; good = s.good.packages }

pub services_stored : (b : StoredBundle) → BundleStored b → ProvidedStored b.services
services_stored b s = record { stored = ap (λ (x : StoredBundle). x.services) s.stored; good = s.good.services }

pub named_stored : (c : StoredConnection) → ConnectionStored c → NumbersStored c.bundles
named_stored c s = record { stored = ap (λ (x : StoredConnection). x.bundles) s.stored; good = s.good.bundles }

pub package_part_stored : (c : StoredConnection) → ConnectionStored c → PackagePartStored c.packages
package_part_stored c s = record { stored = ap (λ (x : StoredConnection). x.packages) s.stored; good = s.good.packages }

pub service_part_stored : (c : StoredConnection) → ConnectionStored c → PartStored c.services
service_part_stored c s = record { stored = ap (λ (x : StoredConnection). x.services) s.stored; good = s.good.services }

-- a part without the sign is a list
pub listed_stored : (p : Numbers) → PartStored p → (p.count ≡ everything_sign → ⊥) → NumbersStored p
listed_stored p s e =
    let f : eqb p.count everything_sign ≡ false = ne_eqb p.count everything_sign e in
    record { stored = rw f at s.stored; good = rw f at s.good }

pub listed_entries_stored : (p : Entries) → PackagePartStored p → (p.count ≡ everything_sign → ⊥) → EntriesStored p
listed_entries_stored p s e =
    let f : eqb p.count everything_sign ≡ false = ne_eqb p.count everything_sign e in
    record { stored = rw f at s.stored; good = rw f at s.good }

-- an empty array of places
pub no_bundles : {bs : Bundles} → bs ≡ store_bundles [] → Filled store_bundle (store_bundle no_bundle) most_bundles bs.items 0 []
unfolding store_bundles
no_bundles e = rw e filled_none

pub no_connections : {cs : Connections} → cs ≡ store_connections []
    → Filled store_connection (store_connection no_connection) most_connections cs.items 0 []
unfolding store_connections
no_connections e = rw e filled_none

-- a list that was put into cleared places
pub filled_put : {size : ℕ} {items xs : List ℕ} → items ≡ put_into (replicate size 0) xs → length xs ≤ size
    → Filled (λ x. x) 0 size items (length xs) xs
filled_put {size} {items} {xs} e h = record { shape = rw (e, map_id, drop_replicate {A = ℕ} 0 size (length xs) h); counted = refl; room = h }

-- and an array that holds a list is what stores it
pub filled_numbers : {items : List ℕ} {count : ℕ} {xs : List ℕ} → Filled (λ x. x) 0 most_listed items count xs
    → ◌≡◌ {A = Numbers} (record { count = count; items = items }) (store_numbers xs)
unfolding store_numbers
filled_numbers h = λ i. record { count = h.counted i; items = h.shape i }

pub filled_provided : {items : List ℕ} {count : ℕ} {xs : List ℕ} → Filled (λ x. x) 0 most_provided items count xs
    → ◌≡◌ {A = Provided} (record { count = count; items = items }) (store_provided xs)
unfolding store_provided
filled_provided h = λ i. record { count = h.counted i; items = h.shape i }

pub no_packages : ◌≡◌ {A = Packages} (record { count = 0; numbers = replicate most_provided 0; versions = replicate most_provided 0 }) (store_packages [])
unfolding store_packages
no_packages = refl

pub no_entries : ◌≡◌ {A = Entries}
    (record { count = 0; numbers = replicate most_listed 0; lowest = replicate most_listed 0; highest = replicate most_listed 0 }) (store_entries [])
unfolding store_entries
no_entries = refl

pub filled_bundles : {items : List StoredBundle} {count : ℕ} {bs : List Bundle}
    → Filled store_bundle (store_bundle no_bundle) most_bundles items count bs
    → ◌≡◌ {A = Bundles} (record { count = count; items = items }) (store_bundles bs)
unfolding store_bundles
filled_bundles h = λ i. record { count = h.counted i; items = h.shape i }

pub filled_connections : {items : List StoredConnection} {count : ℕ} {cs : List Connection}
    → Filled store_connection (store_connection no_connection) most_connections items count cs
    → ◌≡◌ {A = Connections} (record { count = count; items = items }) (store_connections cs)
unfolding store_connections
filled_connections h = λ i. record { count = h.counted i; items = h.shape i }

pub all_counted : (P : ℕ → Type 0) (a k : ℕ) → ((n : ℕ) → n < a + k → P n) → All P (count_from a k)
all_counted P a zero f = tt
all_counted P a (suc k) f = (f a (omega arith), all_counted P (suc a) k (λ n h. f n (omega arith)))

-- the regions that a set of regions has
pub regions_back : (rs : List ℕ) → Sorted ltb (λ r. r < regions) regions rs → members (set_of (λ r. member r rs)) ≡ rs
unfolding members
regions_back rs h =
    keep_same (has (set_of (λ r. member r rs))) (λ r. member r rs) (count_from 0 regions)
    (all_counted (λ r. has (set_of (λ s. member s rs)) r ≡ member r rs) 0 regions
    (λ r l. has_set (λ s. member s rs) r ∙ rw (lt-ltb r regions (omega arith))))
    ∙ members_back regions rs h.each h.ascend

-- legal lists are short enough for their places
short_part : {A : Type 0} (before : A → A → Bool) (Good : A → Type 0) (p : Part A) → SortedPart before Good p → ShortPart p
short_part before Good (Part.listed xs) h = h.few
short_part before Good Part.everything h = tt

pub short_bundle : {rs : List ℕ} {b : Bundle} → LegalBundle rs b → ShortBundle b
short_bundle h = record { packages = h.packages.few; services = h.services.few }

pub short_connection : {rs : List ℕ} {c : Connection} → LegalConnection rs c → ShortConnection c
short_connection {c = c} h = record {
  bundles = h.filter.bundles.few;
  packages = short_part entry_before LegalEntry c.filter.packages h.filter.packages;
  services = short_part ltb Word c.filter.services h.filter.services;
}

pub short_connections : {m : Model} → Legal m → All ShortConnection m.connections
short_connections {m} h = all_map (LegalConnection m.regions) ShortConnection (λ c l. short_connection l) m.connections h.connections_legal.each

pub meaning_back : (m : Model) → Legal m → meaning (store m) ≡ m
unfolding meaning store
meaning_back m h = λ i. record {
  regions = regions_back m.regions h.regions_legal i;
  bundles = bundles_back m.bundles i;
  connections = connections_back m.connections (short_connections h) i;
}

-- two valid records with one meaning are equal
pub meaning_injective : (g h : Graph) → Valid g → Valid h → meaning g ≡ meaning h → g ≡ h
meaning_injective g h v w e = v.stored ∙ ap store e ∙ sym w.stored

-- the test of a set is that of its members
pub has_member : (x r : ℕ) → has x r ≡ member r (members x)
unfolding members
has_member x r =
    sym (member_kept (has x) r (count_from 0 regions) ∙ ap (λ (b : Bool). b && has x r) (member_counted r 0 regions (omega arith))
    ∙ twice (ltb r regions) (eqb (bit x r) 1))
  where
    twice : (a b : Bool) → (a && (a && b)) ≡ (a && b)
    twice true b = refl
    twice false b = refl

-- the parts of a valid record
module _ (g : Graph) (v : Valid g) where
  pub regions_stored : g.regions ≡ set_of (λ r. member r (meaning g).regions)
  unfolding store
  regions_stored = ap (λ (k : Graph). k.regions) v.stored

  pub bundles_stored : BundlesStored g.bundles
  unfolding store meaning
  bundles_stored = record {
    stored = ap (λ (k : Graph). k.bundles) v.stored;
    good = record {
      few = v.good.bundles_legal.few;
      each = all_map (LegalBundle (meaning g).regions) ShortBundle (λ b h. short_bundle h) (meaning g).bundles v.good.bundles_legal.each;
    };
  }

  pub connections_stored : ConnectionsStored g.connections
  unfolding store meaning
  connections_stored = record {
    stored = ap (λ (k : Graph). k.connections) v.stored;
    good = record {
      few = v.good.connections_legal.few;
      each = short_connections v.good;
    };
  }

-- a region joins a set of regions, or leaves it
pub set_insert : {x : ℕ} (rs : List ℕ) (r : ℕ) → x ≡ set_of (λ n. member n rs) → bit_or x (singleton r) ≡ set_of (λ n. member n (insert_by ltb r rs))
set_insert rs r e =
    ap (λ (x : ℕ). bit_or x (singleton r)) e ∙ set_join (λ n. member n rs) r
    ∙ set_ext (λ n. member n rs || eqb r n) (λ n. member n (insert_by ltb r rs))
    (λ n h. or_comm (member n rs) (eqb r n) ∙ ap (λ (b : Bool). b || member n rs) (eqb_sym r n) ∙ sym (exists_insert (eqb n) ltb r rs))

pub set_remove : {x : ℕ} (rs : List ℕ) (r : ℕ) → x ≡ set_of (λ n. member n rs)
    → bit_and x (2 ^ 64 - 1 - singleton r) ≡ set_of (λ n. member n (keep (λ s. not (eqb r s)) rs))
set_remove rs r e =
    ap (λ (x : ℕ). bit_and x (2 ^ 64 - 1 - singleton r)) e ∙ set_leave (λ n. member n rs) r
    ∙ set_ext (λ n. member n rs && not (eqb r n)) (λ n. member n (keep (λ s. not (eqb r s)) rs))
    (λ n h. sym (member_kept (λ s. not (eqb r s)) n rs))

-- the parts of a record that stores a model
pub stored_graph : (m : Model) {x : ℕ} {bs : Bundles} {cs : Connections} → x ≡ set_of (λ r. member r m.regions)
    → bs ≡ store_bundles m.bundles → cs ≡ store_connections m.connections
    → ◌≡◌ {A = Graph} (record { regions = x; bundles = bs; connections = cs }) (store m)
unfolding store
stored_graph m e f h = λ i. record { regions = e i; bundles = f i; connections = h i }

-- a record that stores a legal model means it and is valid
pub stores_valid : {g : Graph} (m : Model) → Legal m → g ≡ store m → Valid g
stores_valid {g} m h e =
    let f : meaning g ≡ m = ap meaning e ∙ meaning_back m h in
    record { good = subst Legal (sym f) h; stored = e ∙ ap store (sym f) }

pub stores_means : {g : Graph} (m : Model) → Legal m → g ≡ store m → meaning g ≡ m
stores_means m h e = ap meaning e ∙ meaning_back m h

pub stores_nothing : {g : Graph} → g ≡ store nothing → Empty g
stores_nothing e = record { valid = stores_valid nothing legal_nothing e; model = stores_means nothing legal_nothing e }

-- where the places that store lists have 32 bits, or 16, so has what they store
front_all : {A : Type 0} (P : ℕ → Type 0) (f : A → ℕ) (xs : List A) (rest : List ℕ) → ((i : ℕ) → P (get_or (map f xs ++ rest) i 0)) → All (λ x. P (f x)) xs
front_all P f [] rest h = tt
front_all P f (x ∷ xs) rest h = (h 0, front_all P f xs rest (λ i. h (suc i)))

pub numbers_words : {n : Numbers} (xs : List ℕ) → n ≡ store_numbers xs → ((i : ℕ) → Word (get_or n.items i 0)) → All Word xs
unfolding store_numbers
numbers_words xs e h = front_all Word (λ x. x) xs (replicate (most_listed - length xs) 0) (rw e at h)

pub provided_words : {n : Provided} (xs : List ℕ) → n ≡ store_provided xs → ((i : ℕ) → Word (get_or n.items i 0)) → All Word xs
unfolding store_provided
provided_words xs e h = front_all Word (λ x. x) xs (replicate (most_provided - length xs) 0) (rw e at h)

pub packages_words : {p : Packages} (ps : List Package) → p ≡ store_packages ps → ((i : ℕ) → Word (get_or p.numbers i 0))
    → ((i : ℕ) → Version (get_or p.versions i 0)) → All PackageFits ps
unfolding store_packages
packages_words ps e h k =
    both ps (front_all Word (λ p. p.number) ps (replicate (most_provided - length ps) 0) (rw e at h))
    (front_all Version (λ p. p.version) ps (replicate (most_provided - length ps) 0) (rw e at k))
  where
    both : (qs : List Package) → All (λ p. Word p.number) qs → All (λ p. Version p.version) qs → All PackageFits qs
    both [] f g = tt
    both (q ∷ qs) f g = (record { number = f.0; version = g.0 }, both qs f.1 g.1)

pub part_words : {n : Numbers} (p : Part ℕ) → n ≡ store_part p → ((i : ℕ) → Word (get_or n.items i 0)) → PartAll Word p
part_words (Part.listed xs) e h = numbers_words xs e h
part_words Part.everything e h = tt

pub package_part_words : {n : Entries} (p : Part PackageEntry) → n ≡ store_package_part p → ((i : ℕ) → Word (get_or n.numbers i 0))
    → ((i : ℕ) → Version (get_or n.lowest i 0)) → ((i : ℕ) → Version (get_or n.highest i 0)) → PartAll EntryFits p
unfolding store_entries
package_part_words (Part.listed es) e h k l =
    each es (front_all Word (λ x. x.number) es (replicate (most_listed - length es) 0) (rw e at h))
    (front_all Version (λ x. x.lowest) es (replicate (most_listed - length es) 0) (rw e at k))
    (front_all Version (λ x. x.highest) es (replicate (most_listed - length es) 0) (rw e at l))
  where
    each : (ds : List PackageEntry) → All (λ x. Word x.number) ds → All (λ x. Version x.lowest) ds → All (λ x. Version x.highest) ds → All EntryFits ds
    each [] f g j = tt
    each (d ∷ ds) f g j = (record { number = f.0; lowest = g.0; highest = j.0 }, each ds f.1 g.1 j.1)
package_part_words Part.everything e h k l = tt

-- no refusal has the number of an accepted call
pub refusal_numbered : (x : Refusal) → refusal_number x ≡ not_refused → ⊥
refusal_numbered Refusal.NotARegion e = omega (arith, e)
refusal_numbered Refusal.RegionUsed e = omega (arith, e)
refusal_numbered Refusal.NoSuchRegion e = omega (arith, e)
refusal_numbered Refusal.EndsEqual e = omega (arith, e)
refusal_numbered Refusal.Connected e = omega (arith, e)
refusal_numbered Refusal.NotConnected e = omega (arith, e)
refusal_numbered Refusal.ListTooLong e = omega (arith, e)
refusal_numbered Refusal.ListOutOfOrder e = omega (arith, e)
refusal_numbered Refusal.Installed e = omega (arith, e)
refusal_numbered Refusal.Filtered e = omega (arith, e)
refusal_numbered Refusal.Full e = omega (arith, e)
refusal_numbered Refusal.NotInstalled e = omega (arith, e)
refusal_numbered Refusal.NotAKind e = omega (arith, e)
refusal_numbered Refusal.NoPlace e = omega (arith, e)
refusal_numbered Refusal.NotAnArchive e = omega (arith, e)
refusal_numbered Refusal.WrongLength e = omega (arith, e)
refusal_numbered Refusal.BrokenLayout e = omega (arith, e)
refusal_numbered Refusal.BrokenSheet e = omega (arith, e)
refusal_numbered Refusal.NoEntry e = omega (arith, e)
refusal_numbered Refusal.RangeReversed e = omega (arith, e)
refusal_numbered Refusal.HasVersions e = omega (arith, e)

-- the refusals in the order of their numbers, from 1 on
abbrev refusals : List Refusal
refusals =
    Refusal.NotARegion ∷ Refusal.RegionUsed ∷ Refusal.NoSuchRegion ∷ Refusal.EndsEqual ∷ Refusal.Connected ∷ Refusal.NotConnected
    ∷ Refusal.ListTooLong ∷ Refusal.ListOutOfOrder ∷ Refusal.Installed ∷ Refusal.Filtered ∷ Refusal.Full ∷ Refusal.NotInstalled
    ∷ Refusal.NotAKind ∷ Refusal.NoPlace ∷ Refusal.NotAnArchive ∷ Refusal.WrongLength ∷ Refusal.BrokenLayout ∷ Refusal.BrokenSheet
    ∷ Refusal.NoEntry ∷ Refusal.RangeReversed ∷ Refusal.HasVersions ∷ []

abbrev refusal_at : ℕ → Refusal
refusal_at n = get_or refusals (n - 1) Refusal.NotARegion

refusal_found : (x : Refusal) → refusal_at (refusal_number x) ≡ x
refusal_found Refusal.NotARegion = refl
refusal_found Refusal.RegionUsed = refl
refusal_found Refusal.NoSuchRegion = refl
refusal_found Refusal.EndsEqual = refl
refusal_found Refusal.Connected = refl
refusal_found Refusal.NotConnected = refl
refusal_found Refusal.ListTooLong = refl
refusal_found Refusal.ListOutOfOrder = refl
refusal_found Refusal.Installed = refl
refusal_found Refusal.Filtered = refl
refusal_found Refusal.Full = refl
refusal_found Refusal.NotInstalled = refl
refusal_found Refusal.NotAKind = refl
refusal_found Refusal.NoPlace = refl
refusal_found Refusal.NotAnArchive = refl
refusal_found Refusal.WrongLength = refl
refusal_found Refusal.BrokenLayout = refl
refusal_found Refusal.BrokenSheet = refl
refusal_found Refusal.NoEntry = refl
refusal_found Refusal.RangeReversed = refl
refusal_found Refusal.HasVersions = refl

-- no two refusals have one number
pub refusal_settled : (x y : Refusal) → refusal_number x ≡ refusal_number y → x ≡ y
refusal_settled x y e = sym (refusal_found x) ∙ ap refusal_at e ∙ refusal_found y

-- so an answer without a value is its number
pub answer_settled : (a b : Result (Unit {0}) Refusal) → answer_number a ≡ answer_number b → a ≡ b
answer_settled (Ok a) (Ok b) e = refl
answer_settled (Ok a) (Err y) e = absurd (refusal_numbered y (sym e))
answer_settled (Err x) (Ok b) e = absurd (refusal_numbered x e)
answer_settled (Err x) (Err y) e = ap (λ (z : Refusal). Err z) (refusal_settled x y e)

-- a call, what it answers, and the record that it leaves
module _ (g : Graph) (c : Call) (v : Valid g) where
  -- where it is refused, the record that it got
  pub refused : (x : Refusal) → refusal_number x ≡ number (meaning g) c → {r : Result (Unit {0}) Refusal} → r ≡ Err x → Follows g c (changed r g)
  refused x n {r} e =
      let k : answer_number r ≡ refusal_number x = ap answer_number e in
      record {
        valid = v;
        number = k ∙ n;
        next = sym (pick_no (accepted (meaning g) c) (meaning g) (ne_eqb (number (meaning g) c) not_refused (λ z. refusal_numbered x (n ∙ z))));
        kept = λ f. refl;
      }

  -- where it is accepted, the record that stores the model after it
  pub accepts : Words c → not_refused ≡ number (meaning g) c → {h : Graph} → h ≡ store (accepted (meaning g) c)
      → Follows g c (changed {A = Unit {0}} (Ok tt) h)
  accepts w n s =
      let m = accepted (meaning g) c in
      let l : Legal m = legal_accepted (meaning g) c v.good w (sym n) in
      record {
        valid = stores_valid m l s;
        number = n;
        next = stores_means m l s ∙ sym (pick_yes m (meaning g) (eq-eqb (number (meaning g) c) not_refused (sym n)));
        kept = λ f. absurd (f refl);
      }

-- the promises settle the outcome: two records that meet them are one
pub settled : (g : Graph) (c : Call) (r s : Changed) → Follows g c r → Follows g c s → r ≡ s
settled g c r s f h =
    let e : r.graph ≡ s.graph = meaning_injective r.graph s.graph f.valid h.valid (f.next ∙ sym h.next) in
    λ i. record { graph = e i; number = (f.number ∙ sym h.number) i }

-- and so of the results: two answers of a call, each with the record that it left
pub result_settled : (g : Graph) (c : Call) (a b : Result (Unit {0}) Refusal) (h k : Graph) → Follows g c (changed a h) → Follows g c (changed b k)
    → (a ≡ b) × (h ≡ k)
result_settled g c a b h k f j = (answer_settled a b (f.number ∙ sym j.number), ap (λ (r : Changed). r.graph) (settled g c (changed a h) (changed b k) f j))

pub empty_settled : (g h : Graph) → Empty g → Empty h → g ≡ h
empty_settled g h e f = meaning_injective g h e.valid f.valid (e.model ∙ sym f.model)
