use mathlib.Core.Path.{◌≡◌}
use lib.ListN.{take}
use Rattle.region_graph.specs.Lists.{concat_map}
use Rattle.region_graph.specs.Record.{meaning}
use Rattle.region_routes.specs.Tables.{passage_spans}
use Rattle.region_routes.proofs.tables.Table.put_connection_spans.Given as goal

abbrev pub invariant-loop-c : goal.invariant-loop-c
invariant-loop-c l = l.self ≡ concat_map passage_spans (take l.c-index (meaning l.fn.graph).connections)
