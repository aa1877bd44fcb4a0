-- What the functions on chains promise each other. An entry of a table is in a chain by its number, so that a number is looked up among few.
use Rattle.std.specs.Prelude.{◌≡◌, List, [], ◌∷◌, ℕ, ◌+◌, ◌%◌, ◌<◌, ◌≤◌, eqb, length, get_or, drop, set, bit_or}
use Rattle.region_graph.specs.Lists.{pick, position}
use Rattle.region_graph.specs.Sets.{singleton}
use Rattle.region_routes.specs.Tables.{number_in, source_in, target_in, most_entries}

-- the chains of a table, and the chain of a number
abbrev pub chains : ℕ
chains = 256

abbrev pub chain : ℕ → ℕ
chain n = n % chains

-- the place of the first entry of chain c from place i on, or the table's length
unfoldable pub next_in : List ℕ → ℕ → ℕ → ℕ
next_in es c i = i + position (λ e. eqb (chain (number_in e)) c) (drop i es)

-- for each chain the place of its first entry, and after those for each entry the place of the next one of its chain
pub record Chained (es links : List ℕ) : Type 0 where
  pub few : length es ≤ most_entries
  pub long : length links ≡ chains + most_entries
  pub first : (c : ℕ) → c < chains → get_or links c 0 ≡ next_in es c 0
  pub next : (i : ℕ) → i < length es → get_or links (chains + i) 0 ≡ next_in es (chain (number_in (get_or es i 0))) (i + 1)

-- the places, counted from i, of the entries that have the number n
abbrev pub places_of : List ℕ → ℕ → ℕ → List ℕ
places_of [] n i = []
places_of (e ∷ es) n i = pick (eqb (number_in e) n) (i ∷ places_of es n (i + 1)) (places_of es n (i + 1))

-- those from place i on
unfoldable pub places_left : List ℕ → ℕ → ℕ → List ℕ
places_left es n i = places_of (drop i es) n i

-- a walk along the chain of a number is at place i, where an entry of the chain is, if any
pub record Standing (es links : List ℕ) (n i : ℕ) : Type 0 where
  pub chained : Chained es links
  pub upto : i ≤ length es
  pub own : i < length es → chain (number_in (get_or es i 0)) ≡ chain n

-- the sets of predecessors with the source of an entry among those of its target
abbrev pub with_step : List ℕ → ℕ → List ℕ
with_step sets e = set sets (target_in e) (bit_or (get_or sets (target_in e) 0) (singleton (source_in e)))
