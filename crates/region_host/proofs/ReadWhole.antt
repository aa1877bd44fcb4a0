-- What a host reads of a record settles it: two valid records with one set of regions, as many bundles and connections, and at each index the same bundle
-- and the same connection, are equal.
use mathlib.Core.Path.{◌≡◌, refl, sym, ap, ◌∙◌}
use native.Mathlib.Omega.{arith}
use Prim.Native.Nat.{ℕ, suc, ◌<◌}
use mathlib.Core.List.{List, [], ◌∷◌}
use lib.ListN.{length}
use Rattle.region_graph.specs.Lists.{All, member}
use Rattle.region_graph.specs.Sets.{set_of, members}
use Rattle.region_graph.specs.Record.{Valid, meaning, store_bundle, bundle_in, store_connection, connection_in}
use Rattle.region_graph.specs.declared.Graph.{Graph}
use Rattle.region_graph.proofs.Storing.{regions_back, bundles_each, connections_each, short_connections, meaning_injective}
use Rattle.region_host.specs.CNumbers.{CAnswer}
use Rattle.region_host.specs.Reading.{nth_for_c}

-- two lists are as long, and at each index a call gives the same of both, whatever the lent structs were before
pub record Alike {A S : Type 0} (store : A → S) (xs ys : List A) : Type 0 where
  pub count : length xs ≡ length ys
  pub before : ℕ → S × S
  pub each : (i : ℕ) → i < length xs → nth_for_c store xs i (before i).0 ≡ nth_for_c store ys i (before i).1

module _ {A S : Type 0} (store : A → S) (back : S → A) where
  -- such lists are equal, where a stored element is had back
  pub alike_same : (xs ys : List A) → All (λ x. back (store x) ≡ x) xs → All (λ x. back (store x) ≡ x) ys → Alike store xs ys → xs ≡ ys
  alike_same [] [] a b r = refl
  alike_same [] (y ∷ ys) a b r = absurd (omega (arith, r.count))
  alike_same (x ∷ xs) [] a b r = absurd (omega (arith, r.count))
  alike_same (x ∷ xs) (y ∷ ys) a b r =
      let first : x ≡ y = sym a.0 ∙ ap (λ (c : CAnswer S). back c.exit) (r.each 0 (omega arith)) ∙ b.0 in
      let others : Alike store xs ys = record {
        count = omega (arith, r.count);
        before = λ i. r.before (suc i);
        each = λ i h. r.each (suc i) (omega (arith, h));
      } in
      let rest : xs ≡ ys = alike_same xs ys a.1 b.1 others in
      λ i. first i ∷ rest i

-- what `region_set`, `region_bundle_count`, `region_bundle_at`, `region_connection_count` and `region_connection_at` say of two records is the same
pub record ReadAlike (g h : Graph) : Type 0 where
  pub regions : set_of (λ n. member n (meaning g).regions) ≡ set_of (λ n. member n (meaning h).regions)
  pub bundles : Alike store_bundle (meaning g).bundles (meaning h).bundles
  pub connections : Alike store_connection (meaning g).connections (meaning h).connections

module _ (g h : Graph) (v : Valid g) (w : Valid h) (r : ReadAlike g h) where
  same_regions : (meaning g).regions ≡ (meaning h).regions
  same_regions = sym (regions_back _ v.good.regions_legal) ∙ ap members r.regions ∙ regions_back _ w.good.regions_legal

  same_bundles : (meaning g).bundles ≡ (meaning h).bundles
  same_bundles =
      alike_same store_bundle bundle_in (meaning g).bundles (meaning h).bundles (bundles_each (meaning g).bundles) (bundles_each (meaning h).bundles)
      r.bundles

  same_connections : (meaning g).connections ≡ (meaning h).connections
  same_connections =
      alike_same store_connection connection_in (meaning g).connections (meaning h).connections
      (connections_each (meaning g).connections (short_connections v.good)) (connections_each (meaning h).connections (short_connections w.good))
      r.connections

  pub same_meaning : meaning g ≡ meaning h
  same_meaning = λ i. record { regions = same_regions i; bundles = same_bundles i; connections = same_connections i }

  pub read_whole : g ≡ h
  read_whole = meaning_injective g h v w same_meaning
