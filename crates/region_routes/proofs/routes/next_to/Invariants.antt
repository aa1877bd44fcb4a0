use Rattle.region_routes.proofs.Walking.{Looking}
use Rattle.region_routes.proofs.routes.next_to.Given as goal

abbrev pub invariant-loop-next : goal.invariant-loop-next
invariant-loop-next l = Looking l.pred l.set l.region l.next-iterator.left
