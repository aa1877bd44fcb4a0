use Rattle.region_graph.specs.Record.{meaning}
use Rattle.region_graph.proofs.Storing.{connections_stored, connections_filled}
use Rattle.region_graph.proofs.Graph.connection_count.Goals as goal

pub returns : goal.returns
unfolding meaning
returns c = (connections_filled c.args.self.now.connections (connections_stored c.args.self.now c.requires)).counted
