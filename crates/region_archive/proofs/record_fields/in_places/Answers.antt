use mathlib.Core.List.{◌++◌, [], ◌∷◌}
use Prim.Native.Nat.{ℕ}
use native.Mathlib.Omega.{arith}
use Rattle.region_graph.proofs.Arrays.{filled_more}
use Rattle.region_archive.proofs.Fits.{posts_more}
use Rattle.region_archive.proofs.record_fields.in_places.Goals as goal

pub loop-i-preserved : goal.loop-i-preserved
loop-i-preserved g c =
    let h = c.loop-i.invariant in
    let r = c.code.result in (
      h.0 ++ (r ∷ []),
      filled_more h.1 r (omega (arith, c.requires.few)),
      posts_more (λ (k x : ℕ). goal.F-post g c.args.code k x) h.0 r h.1.counted h.2 c.code.ensures,
    )
