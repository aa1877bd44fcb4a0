use Rattle.region_graph.proofs.Arrays.{filled_none}
use Rattle.region_graph.proofs.Storing.{filled_provided, no_packages}
use Rattle.region_graph.proofs.bundles.no_bundle.Goals as goal

pub returns : goal.returns
returns c = λ i. record { location = 0; region = 0; packages = no_packages i; services = filled_provided filled_none i }
