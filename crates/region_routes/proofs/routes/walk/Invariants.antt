use Prim.Native.Nat.{◌-◌}
use Rattle.region_routes.proofs.Walking.{Walk}
use Rattle.region_routes.proofs.routes.walk.Given as goal

abbrev pub invariant-loop-passed : goal.invariant-loop-passed
invariant-loop-passed l =
    Walk l.search.pred l.search.layers.sets l.deep l.region l.initial.out l.out (l.deep - l.passed) l.passed l.here
