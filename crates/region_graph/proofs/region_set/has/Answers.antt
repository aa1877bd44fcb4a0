use mathlib.Core.Path.{sym, ap, ◌∙◌}
use Prim.Native.Nat.{ℕ}
use lib.Dec.{eqb}
use Rattle.region_graph.proofs.Bits.{bit_shift}
use Rattle.region_graph.proofs.region_set.has.Goals as goal

pub returns-then-is_region : goal.returns-then-is_region
returns-then-is_region c =
    let a = c.args in
    rw (sym c.is_region.ensures ∙ c.if-is_region.true) (ap (λ (d : ℕ). eqb d 1) (bit_shift a.set a.region))
