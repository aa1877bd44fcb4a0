use Rattle.region_graph.specs.Record.{meaning}
use Rattle.region_routes.proofs.Judging.{reached_sees}
use Rattle.region_routes.proofs.search.regions_seeing.Goals as goal

pub returns : goal.returns
returns c = let s = c in reached_sees (meaning s.args.graph.now) s.args.item s.requires.good c.search_for.ensures.1
