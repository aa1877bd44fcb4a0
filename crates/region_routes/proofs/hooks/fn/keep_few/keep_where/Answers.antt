use Rattle.std.proofs.Common.{refl, sym}
use Rattle.region_graph.specs.Record.{meaning}
use Rattle.region_routes.specs.Chosen.{sees}
use Rattle.region_routes.specs.Hooks.{item, kind_number}
use Rattle.region_routes.proofs.Keeping.{has_by}
use Rattle.region_routes.proofs.hooks.fn.keep_few.keep_where.Goals as goal

pub returns : goal.returns
returns c =
    let a = c.captures in
    sym (has_by (λ n. sees (meaning a.graph.now) (item (kind_number a.kind) c.args.number 0) n) a.region (rw c.item.ensures at c.regions_seeing.ensures)
    c.requires.1 c.has.ensures refl)
