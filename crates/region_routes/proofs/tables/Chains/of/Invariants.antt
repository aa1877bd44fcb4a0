use Rattle.region_routes.proofs.Chaining.{Linking}
use Rattle.region_routes.proofs.tables.Chains.of.Given as goal

abbrev pub invariant-loop-i : goal.invariant-loop-i
invariant-loop-i l = Linking l.table l.links l.i
