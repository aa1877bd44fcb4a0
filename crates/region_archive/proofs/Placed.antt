-- What the slices of a valid graph's bundles and connections hold.
use mathlib.Core.Path.{◌≡◌, ap, ◌∙◌}
use mathlib.Core.List.{List, map}
use Prim.Native.Nat.{ℕ, ◌≤◌}
use native.Mathlib.Omega.{arith}
use lib.ListN.{length, length-map}
use Rattle.std.specs.List.{All}
use Rattle.std.proofs.lemmas.List.Elements.{All-map, All-same}
use Rattle.region_graph.specs.Size.{most_bundles}
use Rattle.region_graph.specs.Record.{Valid, meaning, store_bundle, store_connection, bundle_in, connection_in}
use Rattle.region_graph.specs.Places.{ShortBundle, ShortConnection}
use Rattle.region_graph.specs.declared.Graph.{Graph}
use Rattle.region_graph.specs.declared.bundles.StoredBundle.{StoredBundle}
use Rattle.region_graph.specs.declared.connections.StoredConnection.{StoredConnection}
use Rattle.region_graph.proofs.Lists.{all_at}
use Rattle.region_graph.proofs.Storing.{map_back, bundles_each, connections_each, short_connections, bundles_stored, connections_stored}
use Rattle.region_graph.specs.Flat.{fields_of_bundle, fields_of_connection}
use Rattle.big_endian.specs.Bytes.{counted}
use Rattle.region_archive.specs.RecordFields.{BundleFits, ConnectionFits, record_bytes, records_bytes, section_bytes}
use Rattle.region_archive.specs.declared.record_fields.Section.{Section}
use Rattle.region_archive.proofs.Fits.{bundle_fits, connection_fits}
use Rattle.region_archive.proofs.Records.{counted_map}

module _ (g : Graph) (v : Valid g) where
  module _ {bs : List StoredBundle} (b : bs ≡ map store_bundle (meaning g).bundles) where
    -- the bundles of the graph, and each fits
    pub bundles_held : map bundle_in bs ≡ (meaning g).bundles
    bundles_held = ap (map bundle_in) b ∙ map_back store_bundle bundle_in (meaning g).bundles (bundles_each (meaning g).bundles)

    pub bundles_few : length bs ≤ most_bundles
    bundles_few = omega (arith, length-map bs bundle_in, ap length bundles_held, v.good.bundles_legal.few)

    -- their records
    pub bundles_bytes : (w : ℕ) → records_bytes (Section.Bundles w) (λ b. fields_of_bundle (bundle_in b)) bs ≡ section_bytes (Section.Bundles w) (meaning g)
    bundles_bytes w =
        counted_map (record_bytes (Section.Bundles w)) bundle_in bs ∙ ap (counted (record_bytes (Section.Bundles w))) bundles_held

    pub bundles_fit : All BundleFits bs
    unfolding meaning
    bundles_fit =
        All-same BundleFits _ _ b
        (All-map BundleFits store_bundle (meaning g).bundles
        (λ k d l. bundle_fits _ (all_at ShortBundle (meaning g).bundles k d l (bundles_stored g v).good.each)))

  module _ {cs : List StoredConnection} (c : cs ≡ map store_connection (meaning g).connections) where
    -- the connections, and each fits
    pub connections_held : map connection_in cs ≡ (meaning g).connections
    connections_held =
        ap (map connection_in) c
        ∙ map_back store_connection connection_in (meaning g).connections (connections_each (meaning g).connections (short_connections v.good))

    pub connections_few : length cs ≤ most_bundles
    connections_few = omega (arith, length-map cs connection_in, ap length connections_held, v.good.connections_legal.few)

    -- their records
    pub connections_bytes : (w : ℕ) → records_bytes (Section.Connections w) (λ c. fields_of_connection (connection_in c)) cs ≡ section_bytes (Section.Connections w) (meaning g)
    connections_bytes w =
        counted_map (record_bytes (Section.Connections w)) connection_in cs ∙ ap (counted (record_bytes (Section.Connections w))) connections_held

    pub connections_fit : All ConnectionFits cs
    unfolding meaning
    connections_fit =
        All-same ConnectionFits _ _ c
        (All-map ConnectionFits store_connection (meaning g).connections
        (λ k d l. connection_fits _ (all_at ShortConnection (meaning g).connections k d l (connections_stored g v).good.each)))
