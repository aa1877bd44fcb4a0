-- What a host reads of the lent record.
use Rattle.std.specs.Prelude.{List, [], ◌∷◌, ℕ, zero, suc, Option, Some, None}
use Rattle.region_graph.specs.Refusals.{not_installed}
use Rattle.region_host.specs.CNumbers.{CAnswer, answered, negative}

-- a region as it is; where nothing is installed, the number of that refusal below zero
abbrev pub place_value : Option ℕ → ℕ
place_value (Some region) = region
place_value None = negative not_installed

-- the i-th of a list, from 0 on: the lent struct becomes its stored form, and one was written; past the last none was, and the struct is as it was
abbrev pub nth_for_c : {A S : Type 0} → (A → S) → List A → ℕ → S → CAnswer S
nth_for_c store [] i entry = answered 0 entry
nth_for_c store (x ∷ xs) zero entry = answered 1 (store x)
nth_for_c store (x ∷ xs) (suc i) entry = nth_for_c store xs i entry
