use mathlib.Core.Path.{◌≡◌}
use lib.ListN.{take}
use Rattle.region_graph.specs.Lists.{concat_map}
use Rattle.region_graph.specs.Record.{meaning}
use Rattle.region_routes.specs.Tables.{owner}
use Rattle.region_routes.proofs.tables.Table.put_owners.Given as goal

abbrev pub invariant-loop-b : goal.invariant-loop-b
invariant-loop-b l = l.self ≡ concat_map owner (take l.b-index (meaning l.fn.graph).bundles)
