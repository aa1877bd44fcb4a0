use Rattle.region_graph.proofs.Arrays.{filled_none}
use Rattle.region_graph.proofs.Storing.{filled_connections}
use Rattle.region_graph.proofs.connections.Connections.none.Goals as goal

pub returns : goal.returns
returns c = rw c.no_connection-none.ensures (filled_connections filled_none)
