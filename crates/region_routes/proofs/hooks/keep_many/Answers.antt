use Rattle.std.proofs.Common.{false}
use Rattle.region_routes.proofs.TableLaws.{preceding_none}
use Rattle.region_routes.proofs.hooks.keep_many.Goals as goal

pub invariant_of-tables : goal.invariant_of-tables
invariant_of-tables c = record { always_value = c.predecessors-always.ensures (λ r s. false) preceding_none }
