-- The calls of an interface, each as what a caller learns of it from its contract: what was handed in, what came back, and the lent buffers
-- before and after.
use Rattle.std.specs.Prelude.{◌≡◌, List, ℕ}
use Rattle.region_graph.specs.Refusals.{not_refused}
use Rattle.region_graph.specs.Model.{Model, nothing}
use Rattle.region_graph.specs.Calls.{Call}
use Rattle.region_graph.specs.declared.Graph.{Graph}
use Rattle.region_routes.specs.declared.resolver.Candidate.{Candidate}
use Rattle.region_routes.specs.declared.Kind.{Kind}
use Rattle.region_routes.specs.Hooks.{Routed, Kept}
use Rattle.region_archive.specs.File.{FileMeaning, read_model}
use Rattle.region_archive.specs.Promise.{Written}

-- a route call on a record, with location, kind, number and version of the item, then the buffer before, the answer and the buffer after
abbrev pub RouteCalls : Type 0 → Type 1
RouteCalls A = Graph → ℕ → ℕ → ℕ → ℕ → List ℕ → A → List ℕ → Type 0

-- the same of a find on a record, with location and candidates, or of an event on it, with the item's number and the listeners
abbrev pub ListCalls : Type 0 → Type 1
ListCalls A = Graph → Kind → ℕ → List ℕ → List ℕ → A → List ℕ → Type 0

-- the same of resolve on a record, with location and candidates, and the output lists, one for each part of a candidate
abbrev pub ResolveCalls : Type 0 → Type 1
ResolveCalls A = Graph → ℕ → List Candidate → List (List ℕ) → A → List (List ℕ) → Type 0

pub record Interface : Type 1 where
  -- the empty record is g
  pub empties : Graph → Type 0
  -- a changing call on g returned the number n and handed back h
  pub changes : Graph → Call → ℕ → Graph → Type 0
  -- a read of a file returned n and handed back h; the record that document 01 names for a refused read is g
  pub reads : List ℕ → Graph → ℕ → Graph → Type 0
  -- a write of g to a buffer
  pub writes : Graph → List ℕ → Written → List ℕ → Type 0
  pub routes : RouteCalls Routed
  pub finds : ListCalls Kept
  pub events : ListCalls Kept
  pub resolves : ResolveCalls Kept
  -- an archive query of a file, with location, kind, number and version of the item, returned v
  pub asks : List ℕ → ℕ → ℕ → ℕ → ℕ → ℕ → Type 0

-- The records from which a list of calls can start, each with the model from which the plain record starts: the empty one, and what an
-- accepted read gave. Each file has a meaning (`file_meaning`).
pub data Started (c : Interface) : Graph → Model → Type 0 where
  from_empty : {g : Graph} → c.empties g → Started c g nothing
  from_archive : {s : List ℕ} {g h : Graph} {n : ℕ} → c.reads s g n h → n ≡ not_refused → (f : FileMeaning s) → Started c h (read_model f)
