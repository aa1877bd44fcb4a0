use mathlib.Core.Path.{subst}
use mathlib.Core.List.{List}
use Prim.Native.Nat.{ℕ}
use native.Mathlib.Omega.{arith}
use Rattle.region_graph.specs.Model.{Package}
use Rattle.region_graph.specs.Record.{meaning}
use Rattle.region_routes.specs.Hooks.{kind_number}
use Rattle.region_listing.specs.Counts.{items_in}
use Rattle.region_listing.proofs.Collecting.{collected_length, collected_own, collected_at}
use Rattle.region_listing.proofs.Counting.{Tally, tally_none, tally_fits, tally_more, tally_all}
use Rattle.region_listing.proofs.counts.seen.Goals as goal

pub loop-i-init : goal.loop-i-init
loop-i-init c = (collected_own c.collect-all.ensures, tally_none)

pub count_members-requires : goal.count_members-requires
count_members-requires c =
    let v = c.loop-i.invariant in tally_fits v.1 (omega (arith, v.0.count, collected_length v.0))

pub loop-i-preserved : goal.loop-i-preserved
loop-i-preserved c =
    let l = c.loop-i in
    let v = l.invariant in (
      v.0,
      tally_more v.1 (omega (arith, collected_length v.0)) (collected_at v.0 l.i (omega arith)) c.regions_seeing.ensures
          c.count_members.ensures,
    )

pub returns : goal.returns
returns c =
    let s = c.args in
    let l = c.loop-i in
    let d = c.collect-all in
    let m = meaning s.graph.now in
    let t = subst (λ (k : ℕ). Tally m k (items_in d.result) l.counts l.i) c.number-code.ensures l.invariant.1 in
    tally_all (omega (arith, collected_length d.ensures))
    (subst (λ (ps : List Package). Tally m (kind_number s.kind) ps l.counts l.i) d.ensures.those t)
