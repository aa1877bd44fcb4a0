use Rattle.std.proofs.Common.{sym, ◌∙◌, arith, rules}
use Rattle.region_routes.proofs.Keeping.{keeping_passed, keeping_failed, keeping_end}
use Rattle.region_routes.proofs.hooks.keep_where.Goals.{then-keeps, else-keeps}
use Rattle.region_routes.proofs.hooks.keep_where.Goals as goal

pub loop-candidate-preserved : goal.loop-candidate-preserved
loop-candidate-preserved g c =
    elim c.if-keeps.branch [
      | then-keeps w ↦
          rw (w.out-is, w.count-is)
          (keeping_passed c.loop-candidate.invariant (omega arith)
          (λ t. sym (t.1 _ _ (search (rules, c.type_inv.candidates)) c.keeps.ensures) ∙ w.if-keeps.true))
      | else-keeps w ↦
          rw (w.out-is, w.count-is)
          (keeping_failed c.loop-candidate.invariant (omega arith)
          (λ t. sym (t.1 _ _ (search (rules, c.type_inv.candidates)) c.keeps.ensures) ∙ w.if-keeps.false))
    ]

pub returns : goal.returns
returns g c = λ p h. keeping_end c.loop-candidate.invariant (omega arith) (p, h)
