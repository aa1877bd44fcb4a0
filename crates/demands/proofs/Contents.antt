-- What a host reads of a lent record is what the plain record holds: by the contracts it is what the record means.
use mathlib.Core.Path.{◌≡◌, ap, ◌∙◌}
use Prim.Native.Nat.{ℕ}
use lib.ListN.{length}
use Rattle.region_graph.specs.Lists.{member}
use Rattle.region_graph.specs.Sets.{set_of}
use Rattle.region_graph.specs.Model.{Model}
use Rattle.region_graph.specs.Record.{meaning, store_bundle, store_connection}
use Rattle.region_graph.specs.Promise.{place_of}
use Rattle.region_graph.specs.declared.Graph.{Graph}
use Rattle.region_graph.specs.declared.bundles.StoredBundle.{StoredBundle}
use Rattle.region_graph.specs.declared.connections.StoredConnection.{StoredConnection}
use Rattle.region_archive.specs.Image.{image}
use Rattle.region_host.specs.CNumbers.{CAnswer, answered}
use Rattle.region_host.specs.Reading.{place_value, nth_for_c}
use Rattle.demands.specs.Lent as lent
use Rattle.demands.specs.Contents.{Contents, ContentsRead}
use Rattle.demands.proofs.Meets.{meets_lent}
use Rattle.demands.proofs.Theorems.{Means, list_means}

set_read : {g : Graph} {v : ℕ} → lent.CSet g v → v ≡ set_of (λ n. member n (meaning g).regions)
set_read (lent.by_set κs g v p) = p

bundles_counted : {g : Graph} {v : ℕ} → lent.CBundleCount g v → v ≡ length (meaning g).bundles
bundles_counted (lent.by_bundle_count κs g v p) = p

connections_counted : {g : Graph} {v : ℕ} → lent.CConnectionCount g v → v ≡ length (meaning g).connections
connections_counted (lent.by_connection_count κs g v p) = p

place_read : {g : Graph} {l v : ℕ} → lent.CRegionOf g l v → v ≡ place_value (place_of (meaning g).bundles l)
place_read (lent.by_region_of κs g l v p) = p

bundle_read : {g : Graph} {i v : ℕ} {entry exit : StoredBundle} → lent.CBundleAt g i entry v exit
    → ◌≡◌ {A = CAnswer StoredBundle} (answered v exit) (nth_for_c store_bundle (meaning g).bundles i entry)
bundle_read (lent.by_bundle_at κs g was is i v p) = p

connection_read : {g : Graph} {i v : ℕ} {entry exit : StoredConnection} → lent.CConnectionAt g i entry v exit
    → ◌≡◌ {A = CAnswer StoredConnection} (answered v exit) (nth_for_c store_connection (meaning g).connections i entry)
connection_read (lent.by_connection_at κs g was is i v p) = p

length_read : {g : Graph} {v : ℕ} → lent.CImageLength g v → v ≡ length (image (meaning g))
length_read (lent.by_image_length κs g v p) = p

contents : {g : Graph} {m : Model} → Means g m → Contents g m
contents w =
    let e = w.model in
    record {
      regions = λ p. set_read p ∙ ap (λ (m : Model). set_of (λ n. member n m.regions)) e;
      bundle_count = λ p. bundles_counted p ∙ ap (λ (m : Model). length m.bundles) e;
      connection_count = λ p. connections_counted p ∙ ap (λ (m : Model). length m.connections) e;
      places = λ {l} p. place_read p ∙ ap (λ (m : Model). place_value (place_of m.bundles l)) e;
      bundles = λ {i} {v} {entry} p. bundle_read p ∙ ap (λ (m : Model). nth_for_c store_bundle m.bundles i entry) e;
      connections = λ {i} {v} {entry} p. connection_read p ∙ ap (λ (m : Model). nth_for_c store_connection m.connections i entry) e;
      image_length = λ p. length_read p ∙ ap (λ (m : Model). length (image m)) e;
    }

pub contents_read : ContentsRead
contents_read = record { every_list = λ s ps. contents (list_means meets_lent s ps).1 }
