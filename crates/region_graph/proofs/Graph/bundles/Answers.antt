use Rattle.region_graph.specs.Record.{meaning}
use Rattle.region_graph.proofs.Storing.{bundles_stored}
use Rattle.region_graph.proofs.Graph.bundles.Goals as goal

pub as_slice-requires : goal.as_slice-requires
as_slice-requires c = bundles_stored c.args.self.now c.requires

pub returns : goal.returns
unfolding meaning
returns c = c.as_slice.ensures.places
