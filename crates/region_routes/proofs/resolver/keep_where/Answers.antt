use Rattle.std.proofs.Common.{◌≡◌, ◌<◌, true, length, sym, ap, ◌∙◌, subst, arith}
use Rattle.region_routes.specs.Resolve.{Candidate, candidate_list}
use Rattle.region_routes.proofs.Resolving.{candidate_at, resolving_start, resolving_passed, resolving_failed, resolving_end}
use Rattle.region_routes.proofs.resolver.keep_where.Goals.{then-keeps, else-keeps}
use Rattle.region_routes.proofs.resolver.keep_where.Goals as goal

pub loop-place-init : goal.loop-place-init
loop-place-init g c = resolving_start c.requires.room

pub loop-place-preserved : goal.loop-place-preserved
loop-place-preserved g c =
    let here : c.loop-place.place < length (candidate_list c.args.given) = omega (arith, c.count-place-end.ensures) in
    let es = c.args.given.exporters.now in
    let ns = c.args.given.packages.now in
    let vs = c.args.given.versions.now in
    let parts = c.at-candidate.ensures ∙ candidate_at es ns vs c.loop-place.place here in
    elim c.if-keeps.branch [
      | then-keeps w ↦
          rw (w.out_exporters-is, w.out_packages-is, w.out_versions-is, w.count-is)
          (resolving_passed es ns vs c.loop-place.invariant here (ap (λ (x : Candidate). x.exporter) parts)
          (ap (λ (x : Candidate). x.number) parts) (ap (λ (x : Candidate). x.version) parts)
          (λ t. subst (λ (x : Candidate). t.0 x ≡ true) parts (sym (t.1 _ _ c.keeps.ensures) ∙ w.if-keeps.true)))
      | else-keeps w ↦
          rw (w.out_exporters-is, w.out_packages-is, w.out_versions-is, w.count-is)
          (resolving_failed c.loop-place.invariant here c.at-candidate.ensures (λ t. sym (t.1 _ _ c.keeps.ensures) ∙ w.if-keeps.false))
    ]

pub returns : goal.returns
returns g c = λ p h. resolving_end c.loop-place.invariant (omega (arith, c.count-place-end.ensures)) (p, h)
