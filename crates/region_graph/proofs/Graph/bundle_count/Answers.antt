use Rattle.region_graph.specs.Record.{meaning}
use Rattle.region_graph.proofs.Storing.{bundles_stored, bundles_filled}
use Rattle.region_graph.proofs.Graph.bundle_count.Goals as goal

pub returns : goal.returns
unfolding meaning
returns c = (bundles_filled c.args.self.now.bundles (bundles_stored c.args.self.now c.requires)).counted
