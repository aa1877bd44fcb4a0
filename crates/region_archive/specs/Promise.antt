-- What the public calls of the archive promise.
use Rattle.std.specs.Prelude.{◌≡◌, Bool, Result, Ok, Err, List, [], ◌∷◌, ◌++◌, ℕ, eqb, leb, length}
use Rattle.region_graph.specs.Refusals.{not_refused, not_installed, not_a_kind, no_place, has_versions, refusal_number}
use Rattle.region_graph.specs.declared.refusals.Refusal.{Refusal}
use Rattle.region_graph.specs.Lists.{pick}
use Rattle.region_graph.specs.Model.{Model, nothing}
use Rattle.region_graph.specs.Calls.{Question, ask, first_no}
use Rattle.region_graph.specs.Record.{Valid, meaning}
use Rattle.region_graph.specs.Promise.{place_of}
use Rattle.region_graph.specs.declared.Graph.{Graph}
use Rattle.region_graph.specs.Promise.{Changed}
use Rattle.region_routes.specs.Hooks.{Returned, Outcome, written, is_installed, judged, item, sees_from}
use Rattle.region_archive.specs.Image.{image, unversioned, older_image}
use Rattle.region_archive.specs.File.{FileMeaning, read_model, read_questions, read_number}

-- what a write answers: the image's length, or a refusal's number
pub data Written : Type 0 where
  Bytes : ℕ → Written
  Refused : ℕ → Written

abbrev pub written_answer : Result ℕ Refusal → Written
written_answer (Ok n) = Written.Bytes n
written_answer (Err r) = Written.Refused (refusal_number r)

-- what document 01 says is returned for each answer of a write: 0 and the length, or the refusal's number
abbrev pub written_as : Written → Returned
written_as (Written.Bytes n) = record { number = not_refused; values = n ∷ [] }
written_as (Written.Refused n) = record { number = n; values = [] }

abbrev pub archived : Written → List ℕ → Outcome Written (List ℕ)
archived answer exit = record { answer = answer; returned = written_as answer; exit = exit }

-- whether an image has a place in the buffer
abbrev pub place_questions : List ℕ → List ℕ → List Question
place_questions s entry = ask no_place (leb (length s) (length entry)) ∷ []

-- an image at the buffer's start and its length, or the number of the first question answered no and the buffer as it was
abbrev pub image_outcome : List Question → List ℕ → List ℕ → Outcome Written (List ℕ)
image_outcome qs s entry = judged Written.Refused (first_no qs) (archived (Written.Bytes (length s)) (written s entry)) entry

-- the same where its place alone is asked for
abbrev pub placed_outcome : List ℕ → List ℕ → Outcome Written (List ℕ)
placed_outcome s entry = image_outcome (place_questions s entry) s entry

abbrev pub write_questions : Model → List ℕ → List Question
write_questions m entry = place_questions (image m) entry

abbrev pub write_outcome : Model → List ℕ → Outcome Written (List ℕ)
write_outcome m entry = placed_outcome (image m) entry

-- C-16: an older image is written of a model without versions alone
abbrev pub older_questions : Model → List ℕ → List Question
older_questions m entry = ask has_versions (unversioned m) ∷ place_questions (older_image m) entry

abbrev pub older_outcome : Model → List ℕ → Outcome Written (List ℕ)
older_outcome m entry = image_outcome (older_questions m entry) (older_image m) entry

-- a read of the file s gave r: an accepted one the sets that the file means, a refused one the empty sets
pub record ReadAs {s : List ℕ} (f : FileMeaning s) (r : Changed) : Type 0 where
  pub number : r.number ≡ read_number f
  pub next : meaning r.graph ≡ read_model f

-- whatever the file means; each file means something (`file_meaning`)
pub record Reads (s : List ℕ) (r : Changed) : Type 0 where
  pub valid : Valid r.graph
  pub says : (f : FileMeaning s) → ReadAs f r

-- what a read answers: a graph, or a refusal with the empty sets
abbrev pub Given : List ℕ → Result Graph Refusal → Type 0
Given s (Ok g) = Reads s (record { graph = g; number = not_refused })
Given s (Err e) = (f : FileMeaning s) → (refusal_number e ≡ read_number f) × (nothing ≡ read_model f)

-- the same with a record at hand: a refused read hands that record back
pub record ReadOver {s : List ℕ} (g : Graph) (f : FileMeaning s) (r : Changed) : Type 0 where
  pub number : r.number ≡ read_number f
  pub next : meaning r.graph ≡ pick (eqb (read_number f) not_refused) (read_model f) (meaning g)

pub record ReadsOver (g : Graph) (s : List ℕ) (r : Changed) : Type 0 where
  pub valid : Valid r.graph
  pub kept : (r.number ≡ not_refused → ⊥) → r.graph ≡ g
  pub says : (f : FileMeaning s) → ReadOver g f r

-- what an archive query answers for an item that is seen, and for one that is hidden
abbrev pub seen_number : ℕ
seen_number = 100

abbrev pub hidden_number : ℕ
hidden_number = 101

-- questions 15 to 17 come before 12 and 13
abbrev pub query_questions : {s : List ℕ} → FileMeaning s → ℕ → ℕ → List Question
query_questions f location kind =
    read_questions f ++ ask not_installed (is_installed (place_of (read_model f).bundles location)) ∷ ask not_a_kind (leb kind 2) ∷ []

-- the number of the first question answered no; with none, whether the bundle sees the item
abbrev pub query_answer : {s : List ℕ} → FileMeaning s → ℕ → ℕ → ℕ → ℕ → ℕ
query_answer f location kind number version =
    let n = first_no (query_questions f location kind) in
    let sees = sees_from (read_model f) (item kind number version) (place_of (read_model f).bundles location) in
    pick (eqb n not_refused) (pick sees seen_number hidden_number) n

abbrev pub Queried : List ℕ → ℕ → ℕ → ℕ → ℕ → ℕ → Type 0
Queried s location kind number version r = (f : FileMeaning s) → r ≡ query_answer f location kind number version

-- the number that an archive query's answer gives
abbrev pub query_number : Result Bool Refusal → ℕ
query_number (Ok sees) = pick sees seen_number hidden_number
query_number (Err e) = refusal_number e
