use Rattle.region_graph.specs.Record.{meaning}
use Rattle.region_graph.proofs.Storing.{connections_stored}
use Rattle.region_graph.proofs.Graph.connections.Goals as goal

pub as_slice-requires : goal.as_slice-requires
as_slice-requires c = connections_stored c.args.self.now c.requires

pub returns : goal.returns
unfolding meaning
returns c = c.as_slice.ensures.places
