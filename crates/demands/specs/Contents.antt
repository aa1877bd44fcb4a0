-- What a host reads of a lent record: after every list of changing calls it is what document 01's plain record holds.
use Rattle.std.specs.Prelude.{◌≡◌, List, ℕ, length}
use Rattle.region_graph.specs.Lists.{member}
use Rattle.region_graph.specs.Sets.{set_of}
use Rattle.region_graph.specs.Model.{Model}
use Rattle.region_graph.specs.Steps.{Steps}
use Rattle.region_graph.specs.Calls.{Call, run}
use Rattle.region_graph.specs.Record.{store_bundle, store_connection}
use Rattle.region_graph.specs.Promise.{place_of}
use Rattle.region_graph.specs.declared.Graph.{Graph}
use Rattle.region_graph.specs.declared.bundles.StoredBundle.{StoredBundle}
use Rattle.region_graph.specs.declared.connections.StoredConnection.{StoredConnection}
use Rattle.region_archive.specs.Image.{image}
use Rattle.region_host.specs.CNumbers.{CAnswer, answered}
use Rattle.region_host.specs.Reading.{place_value, nth_for_c}
use Rattle.demands.specs.Interface.{Started}
use Rattle.demands.specs.Lent.{CSet, CBundleCount, CConnectionCount, CRegionOf, CBundleAt, CConnectionAt, CImageLength, LentChange, lent}

-- the calls on the record g tell what the model m has
pub record Contents (g : Graph) (m : Model) : Type 0 where
  pub regions : {v : ℕ} → CSet g v → v ≡ set_of (λ n. member n m.regions)
  pub bundle_count : {v : ℕ} → CBundleCount g v → v ≡ length m.bundles
  pub connection_count : {v : ℕ} → CConnectionCount g v → v ≡ length m.connections
  pub places : {l v : ℕ} → CRegionOf g l v → v ≡ place_value (place_of m.bundles l)
  pub bundles : {i v : ℕ} {entry exit : StoredBundle} → CBundleAt g i entry v exit
      → ◌≡◌ {A = CAnswer StoredBundle} (answered v exit) (nth_for_c store_bundle m.bundles i entry)
  pub connections : {i v : ℕ} {entry exit : StoredConnection} → CConnectionAt g i entry v exit
      → ◌≡◌ {A = CAnswer StoredConnection} (answered v exit) (nth_for_c store_connection m.connections i entry)
  pub image_length : {v : ℕ} → CImageLength g v → v ≡ length (image m)

-- for every list of changing calls on a lent record, refused ones included, from the empty record or an accepted archive
pub record ContentsRead : Type 0 where
  pub every_list : {g h : Graph} {m : Model} {cs : List Call} {ns : List ℕ} → Started lent g m → Steps LentChange g cs ns h → Contents h (run m cs)
