-- Of a refusal the answers by its number are those that the calls promise.
use Rattle.std.specs.Prelude.{Result, Ok, Err, Option, Some, None}
use mathlib.Core.Path.{◌≡◌, refl}
use Prim.Native.Nat.{ℕ}
use Rattle.region_graph.specs.Refusals.{refusal_number}
use Rattle.region_graph.specs.declared.refusals.Refusal.{Refusal}
use Rattle.region_routes.specs.Hooks.{routed_answer, kept_answer}
use Rattle.region_archive.specs.Promise.{written_answer}
use Rattle.region_host.specs.CNumbers.{routed_by, kept_by, written_by}

pub routed_refusal : (a : Result (Option ℕ) Refusal) → routed_by refusal_number a ≡ routed_answer a
routed_refusal (Ok None) = refl
routed_refusal (Ok (Some n)) = refl
routed_refusal (Err r) = refl

pub kept_refusal : (a : Result ℕ Refusal) → kept_by refusal_number a ≡ kept_answer a
kept_refusal (Ok n) = refl
kept_refusal (Err r) = refl

pub written_refusal : (a : Result ℕ Refusal) → written_by refusal_number a ≡ written_answer a
written_refusal (Ok n) = refl
written_refusal (Err r) = refl
