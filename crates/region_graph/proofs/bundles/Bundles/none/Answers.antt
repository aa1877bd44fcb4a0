use Rattle.region_graph.proofs.Arrays.{filled_none}
use Rattle.region_graph.proofs.Storing.{filled_bundles}
use Rattle.region_graph.proofs.bundles.Bundles.none.Goals as goal

pub returns : goal.returns
returns c = rw c.no_bundle-none.ensures (filled_bundles filled_none)
