use Rattle.std.proofs.Common.{◌≡◌, take}
use Rattle.region_graph.specs.Items.{provides}
use Rattle.region_graph.specs.Record.{meaning}
use Rattle.region_graph.proofs.Views.{held}
use Rattle.region_graph.proofs.Graph.holders.Given as goal

abbrev pub invariant-loop-b : goal.invariant-loop-b
invariant-loop-b l = l.set ≡ held (λ b. b.region) (provides l.item) (take l.b-index (meaning l.self).bundles)
