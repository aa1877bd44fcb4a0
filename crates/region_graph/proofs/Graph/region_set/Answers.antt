use Rattle.region_graph.proofs.Storing.{regions_stored}
use Rattle.region_graph.proofs.Graph.region_set.Goals as goal

pub returns : goal.returns
returns c = regions_stored c.args.self.now c.requires
