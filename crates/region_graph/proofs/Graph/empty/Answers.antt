use Rattle.region_graph.proofs.Storing.{stores_nothing, stored_graph}
use Rattle.region_graph.proofs.Bits.{set_none}
use mathlib.Core.Path.{sym}
use Rattle.region_graph.specs.Model.{nothing}
use Rattle.region_graph.proofs.Graph.empty.Goals as goal

pub returns : goal.returns
returns c = stores_nothing (stored_graph nothing (sym set_none) c.none.ensures c.none-2.ensures)
