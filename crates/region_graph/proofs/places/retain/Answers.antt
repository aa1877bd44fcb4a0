use Rattle.std.proofs.Common.{refl, ◌∙◌, arith}
use Rattle.std.proofs.Math.ListN.{length-set}
use Rattle.std.proofs.lemmas.Fn.{says_at}
use Rattle.region_graph.proofs.PlaceEdits.{retain_kept, retain_left, clearing_more}
use Rattle.region_graph.proofs.places.retain.Goals as goal

pub loop-i-preserved : goal.loop-i-preserved
loop-i-preserved g c =
    let l = c.loop-i in
    let f = l.invariant in
    elim c.if-keeps.branch [
      | goal.then-keeps w ↦ rw (w.items-is, w.kept-is) (
        omega (arith, f.0),
        length-set _ _ _ ∙ f.1,
        λ p t. retain_kept _ (f.2 p t) (omega (arith, f.1, c.requires.in_bounds)) (t _ _ (says_at g.F.Fn c.keeps.ensures refl)) w.index-items-i-then-keeps.is w.if-keeps.true,
      )
      | goal.else-keeps w ↦ rw (w.items-is, w.kept-is) (
        omega (arith, f.0),
        f.1,
        λ p t. retain_left _ (f.2 p t) (omega (arith, f.1, c.requires.in_bounds)) (t _ _ (says_at g.F.Fn c.keeps.ensures refl)) w.if-keeps.false,
      )
    ]

pub loop-left-preserved : goal.loop-left-preserved
loop-left-preserved g c = clearing_more _ c.args.blank c.loop-left.invariant (c.loop-left.auto.left) (omega (arith, c.loop-i.invariant.1, c.requires.in_bounds))
