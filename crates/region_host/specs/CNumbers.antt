-- What a query answers, as one number for C. C reads the 64 bits as a signed number: a count as it is, and a number of the papers below zero.
use Rattle.std.specs.Prelude.{ℕ, zero, suc, ◌-◌, ◌^◌, ◌<◌, eqb, ltb, Result, Ok, Err, Some, None}
use Rattle.std.specs.Prelude.{Option as Maybe}
use Rattle.region_graph.specs.Lists.{pick}
use Rattle.region_routes.specs.Hooks.{Outcome, Routed, Kept}
use Rattle.region_archive.specs.Promise.{Written, hidden_number}

-- a number below zero, in two's complement
abbrev pub negative : ℕ → ℕ
negative zero = 0
negative (suc n) = 2 ^ 64 - suc n

abbrev pub routed_value : Routed → ℕ
routed_value Routed.Hidden = negative hidden_number
routed_value (Routed.Count n) = n
routed_value (Routed.Refused n) = negative n

abbrev pub kept_value : Kept → ℕ
kept_value (Kept.Wrote n) = n
kept_value (Kept.Refused n) = negative n

abbrev pub written_value : Written → ℕ
written_value (Written.Bytes n) = n
written_value (Written.Refused n) = negative n

-- what a call returns as an answer, where a refusal has a number
module _ {N : Type 0} (number : N → ℕ) where
  abbrev pub routed_by : Result (Maybe ℕ) N → Routed
  routed_by (Ok None) = Routed.Hidden
  routed_by (Ok (Some n)) = Routed.Count n
  routed_by (Err e) = Routed.Refused (number e)

  abbrev pub kept_by : Result ℕ N → Kept
  kept_by (Ok n) = Kept.Wrote n
  kept_by (Err e) = Kept.Refused (number e)

  abbrev pub written_by : Result ℕ N → Written
  written_by (Ok n) = Written.Bytes n
  written_by (Err e) = Written.Refused (number e)

-- the number that C gets, and what was lent, a buffer or several, as the call leaves it
pub record CAnswer (E : Type 0) : Type 0 where
  pub value : ℕ
  pub exit : E

abbrev pub answered : {E : Type 0} → ℕ → E → CAnswer E
answered n exit = record { value = n; exit = exit }

-- an outcome for C
abbrev pub for_c : {A E : Type 0} → (A → ℕ) → Outcome A E → CAnswer E
for_c value o = answered (value o.answer) o.exit

-- what C reads in such a number: a count where it is not below zero, else a number of the papers
abbrev pub read_back : {A : Type 0} → (ℕ → A) → (ℕ → A) → ℕ → A
read_back count numbered v = pick (ltb v (2 ^ 63)) (count v) (numbered (2 ^ 64 - v))

abbrev pub unseen : ℕ → Routed
unseen n = pick (eqb n hidden_number) Routed.Hidden (Routed.Refused n)

abbrev pub routed_of : ℕ → Routed
routed_of = read_back Routed.Count unseen

abbrev pub kept_of : ℕ → Kept
kept_of = read_back Kept.Wrote Kept.Refused

abbrev pub written_of : ℕ → Written
written_of = read_back Written.Bytes Written.Refused

-- a count that is not read as a number below zero; a list in memory has no more places
abbrev pub CountFits : ℕ → Type 0
CountFits n = n < 2 ^ 63
