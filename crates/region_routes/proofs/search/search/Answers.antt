use Rattle.std.proofs.Common.{suc, ◌<◌, refl, add-one, arith, rules}
use Rattle.region_graph.specs.Size.{regions}
use Rattle.region_routes.proofs.SearchLoops.{search_start, search_end, search_room, search_next}
use Rattle.region_routes.proofs.search.search.Goals as goal

pub loop-sets-init : goal.loop-sets-init
loop-sets-init c = search_start (search rules) refl refl

pub layer-next-requires : goal.layer-next-requires
layer-next-requires c = c.requires.0

pub returns-then-next-eq0 : goal.returns-then-next-eq0
returns-then-next-eq0 c = search_end c.loop-sets.invariant c.layer-next.ensures c.if-next-eq0.true

pub bounds-sets-deep : goal.bounds-sets-deep
bounds-sets-deep c =
    let fits : suc c.loop-sets.deep < regions = search_room c.loop-sets.invariant c.layer-next.ensures (omega arith) in
    omega (arith, fits)

pub offset_bounds-sets-deep : goal.offset_bounds-sets-deep
offset_bounds-sets-deep c = omega (arith, bounds-sets-deep c)

pub loop-sets-preserved : goal.loop-sets-preserved
loop-sets-preserved c = rw add-one (search_next c.loop-sets.invariant c.layer-next.ensures (omega arith))
