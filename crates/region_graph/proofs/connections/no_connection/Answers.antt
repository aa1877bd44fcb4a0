use Rattle.region_graph.proofs.Arrays.{filled_none}
use Rattle.region_graph.proofs.Storing.{filled_numbers, no_entries}
use Rattle.region_graph.proofs.connections.no_connection.Goals as goal

pub returns : goal.returns
returns c = λ i. record {
  source = 0;
  target = 0;
  bundles = filled_numbers filled_none i;
  packages = no_entries i;
  services = filled_numbers filled_none i;
}
