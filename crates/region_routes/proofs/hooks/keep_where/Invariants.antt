use Rattle.std.proofs.Common.{◌≡◌, Bool, ℕ, ◌<◌, ◌^◌}
use Rattle.region_routes.proofs.Keeping.{Keeping}
use Rattle.region_routes.proofs.hooks.keep_where.Given as goal

-- for each test that the closure answers
abbrev pub invariant-loop-candidate : goal.invariant-loop-candidate
invariant-loop-candidate g l =
    Keeping (λ (t : (p : ℕ → Bool) × ((n : ℕ) (answer : Bool) → n < 2 ^ 32 → goal.F-post g l.keeps n answer → answer ≡ p n)) x. t.0 x)
    l.candidates l.candidate-index l.count l.initial.out l.out
