use Rattle.std.proofs.Common.{◌≡◌, Bool}
use Rattle.region_routes.specs.Resolve.{Candidate, candidate_list}
use Rattle.region_routes.proofs.Resolving.{columns, Resolving}
use Rattle.region_routes.proofs.resolver.keep_where.Given as goal

-- for each test that the closure answers
abbrev pub invariant-loop-place : goal.invariant-loop-place
invariant-loop-place g l =
    Resolving (λ (t : (p : Candidate → Bool) × ((c : Candidate) (answer : Bool) → goal.F-post g l.keeps c answer → answer ≡ p c)) c. t.0 c)
    (candidate_list l.given) l.place l.count
    (columns l.initial.out_exporters l.initial.out_packages l.initial.out_versions) (columns l.out_exporters l.out_packages l.out_versions)
