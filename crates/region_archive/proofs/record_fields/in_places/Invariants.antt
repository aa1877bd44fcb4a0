use mathlib.Core.List.{List}
use Prim.Native.Nat.{ℕ, ◌<◌}
use lib.ListN.{get_or}
use Rattle.region_graph.specs.Size.{most_listed}
use Rattle.region_graph.proofs.Arrays.{Filled}
use Rattle.region_archive.proofs.record_fields.in_places.Given as goal

abbrev pub invariant-loop-i : goal.invariant-loop-i
invariant-loop-i g l =
    (xs : List ℕ) × Filled (λ x. x) 0 most_listed l.items l.i xs × ((k : ℕ) → k < l.i → goal.F-post g l.code k (get_or xs k 0))
