use mathlib.Core.Path.{◌≡◌, sym, ap, ◌∙◌, subst}
use Prim.Native.Nat.{◌+◌, ◌-◌}
use native.Mathlib.Omega.{arith}
use Rattle.region_routes.specs.Chains.{chain}
use Rattle.region_routes.proofs.Chaining.{Linking, linking_start, linking_more, linking_end}
use Rattle.region_routes.proofs.tables.Chains.of.Goals as goal

pub loop-i-init : goal.loop-i-init
loop-i-init c = linking_start c.args.table.now c.requires

pub loop-i-preserved : goal.loop-i-preserved
loop-i-preserved c =
    let t = c.args.table.now in
    let e : c.loop-i.i ≡ c.loop-i.i - 1 + 1 = omega (arith, c.loop-i-test.true) in
    linking_more t c.loop-i.links (c.loop-i.i - 1) c.chain_of-chain.result
    (sym (c.chain_of-chain.ensures.0 ∙ ap chain c.number_in.ensures)) c.chain_of-chain.ensures.1
    (subst (Linking t c.loop-i.links) e c.loop-i.invariant)

pub invariant_of-result : goal.invariant_of-result
invariant_of-result c =
    let e : c.loop-i.i ≡ 0 = omega arith in
    record { chained = linking_end (subst (Linking c.args.table.now c.loop-i.links) e c.loop-i.invariant) }
