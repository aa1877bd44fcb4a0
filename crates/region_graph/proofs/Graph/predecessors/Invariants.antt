use Rattle.std.proofs.Common.{◌≡◌, take}
use Rattle.region_graph.specs.Items.{passes}
use Rattle.region_graph.specs.Record.{meaning}
use Rattle.region_graph.proofs.Views.{led}
use Rattle.region_graph.proofs.Graph.predecessors.Given as goal

abbrev pub invariant-loop-c : goal.invariant-loop-c
invariant-loop-c l = l.sets ≡ led (λ c. c.source) (λ c. c.target) (λ c. passes l.item c.filter) (take l.c-index (meaning l.self).connections)
