-- Whether a file is of the versions from `low` to `high`.
use Rattle.std.specs.Prelude.{◌≡◌, true, List, ℕ, Result, Ok, Err}
use Rattle.region_graph.specs.Refusals.{refusal_number}
use Rattle.region_graph.specs.Calls.{first_no}
use Rattle.region_graph.specs.declared.refusals.Refusal.{Refusal}
use Rattle.region_archive.specs.File.{FileMeaning, opens}
use Rattle.region_convert.specs.Conversion.{questions_between}

-- it opens as one of them, or the first question answered no names the refusal
abbrev pub AsksVersion : ℕ → ℕ → List ℕ → Result Unit Refusal → Type 0
AsksVersion low high s (Ok u) = opens low high s ≡ true
AsksVersion low high s (Err e) = (f : FileMeaning s) → refusal_number e ≡ first_no (questions_between low high f)
