use Rattle.std.proofs.Common.{◌≡◌, drop}
use Rattle.region_graph.specs.Lists.{exists}
use Rattle.region_graph.specs.Calls.{joins}
use Rattle.region_graph.specs.Record.{meaning}
use Rattle.region_graph.proofs.Graph.has_connection.Given as goal

abbrev pub invariant-loop-c : goal.invariant-loop-c
invariant-loop-c l =
    let cs = (meaning l.self).connections in
    exists (joins l.source l.target) cs ≡ exists (joins l.source l.target) (drop l.c-index cs)
