use mathlib.Core.Path.{◌≡◌}
use Rattle.std.specs.Slice.Iter.{chunks_exact_rest, chunks_exact_size}
use Rattle.region_graph.proofs.FlatLoops.{Taken}
use Rattle.region_graph.proofs.flat.put_rows.Given as goal

abbrev pub invariant-loop-row : goal.invariant-loop-row
invariant-loop-row g l =
    Taken (g.T.Row.kind l.regions) g.T.Row.WIDTH g.T.Row.key l.rows l.initial.places l.places l.least l.count (chunks_exact_rest l.row-iterator)
    × (chunks_exact_size l.row-iterator ≡ g.T.Row.WIDTH)
