-- What a host in C hands in for a part of a filter: 1 is everything, and every other number what is listed.
use Rattle.std.specs.Prelude.{Bool, ℕ, eqb}

abbrev pub pass_all : ℕ
pass_all = 1

abbrev pub passes_all : ℕ → Bool
passes_all n = eqb n pass_all
