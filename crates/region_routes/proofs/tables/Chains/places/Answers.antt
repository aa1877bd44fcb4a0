use mathlib.Core.Path.{sym, ap, ◌∙◌}
use Prim.Native.Nat.{ℕ}
use lib.ListN.{get_or}
use Rattle.region_routes.proofs.Chaining.{reaching_first}
use Rattle.region_routes.proofs.tables.Chains.places.Goals as goal

pub invariant_of-result : goal.invariant_of-result
invariant_of-result c =
    let s = c.args.self.now in
    record { standing = (reaching_first s.chained (c.from.ensures ∙ ap (λ (k : ℕ). get_or s.links k 0) c.chain_of.ensures.0)).standing }

pub returns : goal.returns
returns c =
    let s = c.args.self.now in
    sym (reaching_first s.chained (c.from.ensures ∙ ap (λ (k : ℕ). get_or s.links k 0) c.chain_of.ensures.0)).same
