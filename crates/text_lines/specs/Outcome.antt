-- What it is to put a text into a lent buffer, for every buffer, place and text.
use Rattle.std.specs.Prelude.{List, ◌++◌, ℕ, ◌+◌, leb, length, take, drop}
use Rattle.region_graph.specs.Lists.{pick}

-- the place that is handed back, and the buffer as it is left
pub record PutAnswer : Type 0 where
  pub next : ℕ
  pub exit : List ℕ

abbrev pub put : ℕ → List ℕ → PutAnswer
put next exit = record { next = next; exit = exit }

-- where there is room, the text from `at` on and the place after it; else the buffer as it was, and `at`
unfoldable pub put_outcome : List ℕ → ℕ → List ℕ → PutAnswer
put_outcome entry at xs =
    let next = at + length xs in
    pick (leb next (length entry)) (put next (take at entry ++ (xs ++ drop next entry))) (put at entry)
