-- Request C-16 of document 02: an older archive as one of the latest version, and back.
use Rattle.std.specs.Prelude.{◌≡◌, List, [], ◌∷◌, ◌++◌, ℕ, ◌-◌}
use Rattle.region_graph.specs.Refusals.{broken_layout}
use Rattle.region_graph.specs.Calls.{Question, ask}
use Rattle.region_routes.specs.Hooks.{Outcome}
use Rattle.region_archive.specs.Image.{latest, image, older_image}
use Rattle.region_archive.specs.File.{FileMeaning, is_image, read_model, oldest, front_questions}
use Rattle.region_archive.specs.Promise.{Written, archived, image_outcome, write_questions, older_questions}

-- the reader's questions, where versions from `low` to `high` are admitted
abbrev pub questions_between : ℕ → ℕ → {s : List ℕ} → FileMeaning s → List Question
questions_between low high {s} f = front_questions low high s ++ ask broken_layout (is_image f) ∷ []

-- forward: those before the latest are admitted, then the writer's questions are asked
abbrev pub forward_questions : {s : List ℕ} → FileMeaning s → List ℕ → List Question
forward_questions f entry = questions_between oldest (latest - 1) f ++ write_questions (read_model f) entry

-- back: the latest alone is admitted, then it is asked whether the graph has versions, and the writer's question for the older image
abbrev pub back_questions : {s : List ℕ} → FileMeaning s → List ℕ → List Question
back_questions f entry = questions_between latest latest f ++ older_questions (read_model f) entry

-- the new image at the buffer's start and its length, or the number of the first question answered no and the buffer as it was
abbrev pub forward_outcome : {s : List ℕ} → FileMeaning s → List ℕ → Outcome Written (List ℕ)
forward_outcome f entry = image_outcome (forward_questions f entry) (image (read_model f)) entry

abbrev pub back_outcome : {s : List ℕ} → FileMeaning s → List ℕ → Outcome Written (List ℕ)
back_outcome f entry = image_outcome (back_questions f entry) (older_image (read_model f)) entry

-- whatever the file means; each file means something (`file_meaning`)
abbrev pub Forwards : List ℕ → List ℕ → Written → List ℕ → Type 0
Forwards s entry answer exit = (f : FileMeaning s) → archived answer exit ≡ forward_outcome f entry

abbrev pub Backs : List ℕ → List ℕ → Written → List ℕ → Type 0
Backs s entry answer exit = (f : FileMeaning s) → archived answer exit ≡ back_outcome f entry
