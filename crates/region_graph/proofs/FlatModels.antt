-- Flat lists are those of one legal model at most, and the promise of the function that makes its graph leaves nothing open.
use mathlib.Core.Path.{◌≡◌, refl, sym, ap, ◌∙◌, subst}
use mathlib.Core.List.{List, ◌++◌, map}
use Prim.Native.Nat.{ℕ, ◌≤◌}
use Rattle.std.specs.Prelude.{Option, Some, None, Result, Ok, Err}
use lib.ListN.{length, drop, replicate}
use Rattle.region_graph.specs.Size.{most_bundles, most_connections}
use Rattle.region_graph.specs.Lists.{All, member}
use Rattle.region_graph.specs.Sets.{set_of, members}
use Rattle.region_graph.specs.Model.{Model, nothing, Sorted, Legal, LegalBundle, LegalConnection, bundle_before, connection_before}
use Rattle.region_graph.specs.Record.{Valid, store, store_bundle, store_connection, no_bundle, no_connection, store_bundles, store_connections, meaning}
use Rattle.region_graph.specs.Promise.{Empty}
use Rattle.region_graph.specs.Flat.{FlatModel, Made, bundle_width, connection_width}
use Rattle.region_graph.specs.Decoded.{Decoded, GoodRegions, RowsPut, bundle_kind, connection_kind}
use Rattle.region_graph.specs.declared.bundles.StoredBundle.{StoredBundle}
use Rattle.region_graph.specs.declared.connections.StoredConnection.{StoredConnection}
use Rattle.region_graph.specs.declared.Graph.{Graph}
use Rattle.region_graph.specs.declared.refusals.Refusal.{Refusal}
use Rattle.region_graph.proofs.Arrays.{Filled, drop_replicate}
use Rattle.region_graph.proofs.Storing.{regions_back, stored_graph, stores_valid, stores_means, meaning_injective}
use Rattle.region_graph.proofs.Storing.{no_bundles, no_connections, filled_bundles, filled_connections}
use Rattle.region_graph.proofs.FlatLaws.{bundle_laws, connection_laws, Found, decoded_some, put_none, put_some}
use Rattle.region_graph.proofs.FlatLoops.{flat_same}

-- r is the graph that means m
pub record MadeOf (m : Model) (r : Result Graph Refusal) : Type 0 where
  pub graph : Graph
  pub is : r ≡ Ok graph
  pub valid : Valid graph
  pub means : meaning graph ≡ m

-- the places of an empty graph
empty_stored : {g : Graph} → Empty g → g ≡ store nothing
empty_stored e = e.valid.stored ∙ ap store e.model

pub empty_bundles : {g : Graph} → Empty g → g.bundles.items ≡ replicate most_bundles (store_bundle no_bundle)
unfolding store
empty_bundles e = (no_bundles (ap (λ (h : Graph). h.bundles) (empty_stored e))).shape

pub empty_connections : {g : Graph} → Empty g → g.connections.items ≡ replicate most_connections (store_connection no_connection)
unfolding store
empty_connections e = (no_connections (ap (λ (h : Graph). h.connections) (empty_stored e))).shape

-- a list that was put into them
rows_filled : {A B : Type 0} (put : A → B) (none : B) (most : ℕ) (xs : List A) → length xs ≤ most
    → Filled put none most (map put xs ++ drop (length xs) (replicate most none)) (length xs) xs
rows_filled put none most xs h =
    record { shape = ap (λ l. map put xs ++ l) (drop_replicate none most (length xs) h); counted = refl; room = h }

module _ (rl bl cl : List ℕ) where
  -- two legal models with the same lists are equal
  pub flat_one : (m n : Model) → Legal m → Legal n → FlatModel rl bl cl m → FlatModel rl bl cl n → m ≡ n
  flat_one m n l o h k =
      let q : n.regions ≡ m.regions = k.regions_are ∙ sym h.regions_are in
      let bs : m.bundles ≡ n.bundles
      = flat_same (bundle_laws m.regions) bl m.bundles n.bundles l.bundles_legal.each
      (subst (λ (rs : List ℕ). All (LegalBundle rs) n.bundles) q o.bundles_legal.each) h.bundles_are k.bundles_are in
      let cs : m.connections ≡ n.connections
      = flat_same (connection_laws m.regions l.regions_legal.each) cl m.connections n.connections l.connections_legal.each
      (subst (λ (rs : List ℕ). All (LegalConnection rs) n.connections) q o.connections_legal.each) h.connections_are k.connections_are in
      λ i. record { regions = sym q i; bundles = bs i; connections = cs i }

  -- the lists of a legal model give its graph
  pub flat_made : {r : Result Graph Refusal} (m : Model) → Legal m → FlatModel rl bl cl m → Made rl bl cl r → MadeOf m r
  flat_made m l h (Made.made n o k g e v f) = record { graph = g; is = e; valid = v; means = f ∙ flat_one n m o l k h }
  flat_made m l h (Made.none f e) = absurd (f m l h)

  pub made_settled : (r s : Result Graph Refusal) → Made rl bl cl r → Made rl bl cl s → r ≡ s
  made_settled r s (Made.made m l h g e v f) w =
      let k = flat_made m l h w in
      e ∙ ap Ok (meaning_injective g k.graph v k.valid (f ∙ sym k.means)) ∙ sym k.is
  made_settled r s (Made.none f e) (Made.made m l h g u w k) = absurd (f m l h)
  made_settled r s (Made.none f e) (Made.none g u) = e ∙ sym u

  -- where the regions are good
  module _ {x : ℕ} (s : Decoded (λ rs. set_of (λ n. member n rs)) GoodRegions (λ rs. rs ≡ rl) (Some x)) {empty : Graph} (e : Empty empty) where
    set : Found (λ rs. set_of (λ n. member n rs)) GoodRegions (λ rs. rs ≡ rl) x
    set = decoded_some s

    back : members x ≡ set.value
    back = ap members set.stored ∙ regions_back set.value set.good

    to : (m : Model) → FlatModel rl bl cl m → m.regions ≡ members x
    to m h = h.regions_are ∙ sym set.is ∙ sym back

    abbrev BundlesPut : Option ℕ → List StoredBundle → Type 0
    BundlesPut o new = RowsPut (bundle_kind (members x)) bundle_width bl empty.bundles.items o new

    abbrev ConnectionsPut : Option ℕ → List StoredConnection → Type 0
    ConnectionsPut o new = RowsPut (connection_kind (members x)) connection_width cl empty.connections.items o new

    pub bundles_missing : {r : Result Graph Refusal} {new : List StoredBundle} → BundlesPut None new → r ≡ Err Refusal.BrokenLayout → Made rl bl cl r
    bundles_missing p n =
        Made.none (λ m l h. put_none (rw (empty_bundles e) at p) m.bundles
        (subst (λ (ts : List ℕ). Sorted bundle_before (LegalBundle ts) most_bundles m.bundles) (to m h) l.bundles_legal) h.bundles_are) n

    pub connections_missing : {r : Result Graph Refusal} {new : List StoredConnection} → ConnectionsPut None new → r ≡ Err Refusal.BrokenLayout
        → Made rl bl cl r
    connections_missing p n =
        Made.none (λ m l h. put_none (rw (empty_connections e) at p) m.connections
        (subst (λ (ts : List ℕ). Sorted connection_before (LegalConnection ts) most_connections m.connections) (to m h) l.connections_legal)
        h.connections_are) n

    -- and the bundles and connections too
    pub graph_made : {n k : ℕ} {bs : List StoredBundle} {cs : List StoredConnection} → BundlesPut (Some n) bs → ConnectionsPut (Some k) cs
        → Made rl bl cl (Ok (record { regions = x; bundles = record { count = n; items = bs }; connections = record { count = k; items = cs } }))
    graph_made p q =
        let b = put_some (λ (count : ℕ) (items : List StoredBundle). record { count = count; items = items }) store_bundles
        (λ xs g. filled_bundles (rows_filled store_bundle (store_bundle no_bundle) most_bundles xs g.few)) (rw (empty_bundles e) at p) in
        let c = put_some (λ (count : ℕ) (items : List StoredConnection). record { count = count; items = items }) store_connections
        (λ xs g. filled_connections (rows_filled store_connection (store_connection no_connection) most_connections xs g.few))
        (rw (empty_connections e) at q) in
        let m : Model = record { regions = set.value; bundles = b.value; connections = c.value } in
        let l : Legal m
        = record {
          regions_legal = set.good;
          bundles_legal = subst (λ (ts : List ℕ). Sorted bundle_before (LegalBundle ts) most_bundles b.value) back b.good;
          connections_legal = subst (λ (ts : List ℕ). Sorted connection_before (LegalConnection ts) most_connections c.value) back c.good;
        } in
        let t = stored_graph m set.stored b.stored c.stored in
        Made.made m l (record { regions_are = set.is; bundles_are = b.is; connections_are = c.is }) _ refl (stores_valid m l t) (stores_means m l t)
