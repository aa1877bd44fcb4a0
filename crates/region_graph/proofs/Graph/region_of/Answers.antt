use Rattle.std.proofs.Common.{rules}
use Rattle.region_graph.specs.Record.{meaning}
use Rattle.region_graph.proofs.Views.{place_told}
use Rattle.region_graph.proofs.Graph.region_of.Goals as goal

pub returns : goal.returns
returns c =
    let told = place_told c.args.location c.installed.result (meaning c.args.self.now).bundles c.bundles.ensures c.installed.ensures in
    search (rules, told)
