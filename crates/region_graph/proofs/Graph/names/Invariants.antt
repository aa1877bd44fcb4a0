use Rattle.std.proofs.Common.{◌≡◌, drop}
use Rattle.region_graph.specs.Lists.{exists}
use Rattle.region_graph.specs.Calls.{names}
use Rattle.region_graph.specs.Record.{meaning}
use Rattle.region_graph.proofs.Graph.names.Given as goal

abbrev pub invariant-loop-c : goal.invariant-loop-c
invariant-loop-c l =
    let cs = (meaning l.self).connections in
    exists (names l.region l.location) cs ≡ exists (names l.region l.location) (drop l.c-index cs)
