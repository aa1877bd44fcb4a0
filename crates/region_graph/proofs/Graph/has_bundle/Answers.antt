use mathlib.Core.Path.{ap, ◌∙◌}
use Rattle.std.specs.Option.{is_some}
use Rattle.region_graph.specs.Record.{meaning}
use Rattle.region_graph.proofs.Views.{place_some}
use Rattle.region_graph.proofs.Graph.has_bundle.Goals as goal

pub returns : goal.returns
returns c = c.is_some.ensures ∙ ap is_some c.region_of.ensures ∙ place_some c.args.location (meaning c.args.self.now).bundles
