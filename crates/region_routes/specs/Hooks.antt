-- Document 01, "Routes" and "Hooks", and C-15 of document 02: what the route call, the finds and the events answer and leave in the buffer that
-- they are lent.
use Rattle.std.specs.Prelude.{Bool, true, false, ◌&&◌, List, [], ◌∷◌, ◌++◌, ℕ, ◌-◌, eqb, leb, length, drop, Result, Ok, Err, Some, None}
use Rattle.std.specs.Prelude.{Option as Maybe}
use Rattle.std.proofs.Math.Option.{Option, some, none}
use Rattle.region_graph.specs.Size.{regions}
use Rattle.region_graph.specs.Refusals.{not_refused, not_installed, not_a_kind, no_place, refusal_number}
use Rattle.region_graph.specs.Lists.{pick, keep}
use Rattle.region_graph.specs.Model.{Model}
use Rattle.region_graph.specs.Calls.{Question, ask, first_no}
use Rattle.region_graph.specs.Promise.{place_of}
use Rattle.region_graph.specs.declared.Item.{Item}
use Rattle.region_graph.specs.declared.refusals.Refusal.{Refusal}
use Rattle.region_routes.specs.Chosen.{chosen, sees}
use Rattle.region_routes.specs.declared.Kind.{Kind}

-- the numbers of the kinds
abbrev pub kind_number : Kind → ℕ
kind_number Kind.Bundle = 0
kind_number Kind.Package = 1
kind_number Kind.Service = 2

-- of a kind, a number and a version, which counts for a package alone
abbrev pub item : ℕ → ℕ → ℕ → Item
item kind number version = record { kind = kind; number = number; version = version }

-- what is written stands at the buffer's start; later places keep their values
abbrev pub written : List ℕ → List ℕ → List ℕ
written xs entry = xs ++ drop (length xs) entry

-- what a route call answers: hidden, the route's count of connections, or a refusal's number
pub data Routed : Type 0 where
  Hidden : Routed
  Count : ℕ → Routed
  Refused : ℕ → Routed

-- what a hook answers: how many were written, or a refusal's number
pub data Kept : Type 0 where
  Wrote : ℕ → Kept
  Refused : ℕ → Kept

-- the same of what the calls return
abbrev pub routed_answer : Result (Maybe ℕ) Refusal → Routed
routed_answer (Ok None) = Routed.Hidden
routed_answer (Ok (Some n)) = Routed.Count n
routed_answer (Err r) = Routed.Refused (refusal_number r)

abbrev pub kept_answer : Result ℕ Refusal → Kept
kept_answer (Ok n) = Kept.Wrote n
kept_answer (Err r) = Kept.Refused (refusal_number r)

-- what document 01 says is returned for each answer: the refusal's number, or 0 and the count
pub record Returned : Type 0 where
  pub number : ℕ
  pub values : List ℕ

abbrev pub routed_as : Routed → Returned
routed_as Routed.Hidden = record { number = not_refused; values = [] }
routed_as (Routed.Count n) = record { number = not_refused; values = n ∷ [] }
routed_as (Routed.Refused n) = record { number = n; values = [] }

abbrev pub kept_as : Kept → Returned
kept_as (Kept.Wrote n) = record { number = not_refused; values = n ∷ [] }
kept_as (Kept.Refused n) = record { number = n; values = [] }

-- an answer, what document 01 says is returned for it, and what was lent, a buffer or several, as the call leaves it
pub record Outcome (A E : Type 0) : Type 0 where
  pub answer : A
  pub returned : Returned
  pub exit : E

abbrev pub routed : Routed → List ℕ → Outcome Routed (List ℕ)
routed answer exit = record { answer = answer; returned = routed_as answer; exit = exit }

abbrev pub kept : {E : Type 0} → Kept → E → Outcome Kept E
kept answer exit = record { answer = answer; returned = kept_as answer; exit = exit }

-- whether a bundle, and every listener, is installed
abbrev pub is_installed : Maybe ℕ → Bool
is_installed (Some r) = true
is_installed None = false

abbrev pub all_installed : Model → List ℕ → Bool
all_installed m [] = true
all_installed m (l ∷ ls) = is_installed (place_of m.bundles l) && all_installed m ls

-- the questions that the queries pass, by number
abbrev pub route_questions : Model → ℕ → ℕ → List ℕ → List Question
route_questions m location kind entry =
    ask not_installed (is_installed (place_of m.bundles location))
    ∷ ask not_a_kind (leb kind 2)
    ∷ ask no_place (leb regions (length entry))
    ∷ []

abbrev pub find_questions : Model → ℕ → List ℕ → List ℕ → List Question
find_questions m location candidates entry =
    ask not_installed (is_installed (place_of m.bundles location))
    ∷ ask no_place (leb (length candidates) (length entry))
    ∷ []

abbrev pub event_questions : Model → List ℕ → List ℕ → List Question
event_questions m listeners entry =
    ask not_installed (all_installed m listeners)
    ∷ ask no_place (leb (length listeners) (length entry))
    ∷ []

-- a refusal by the number of the first question answered no leaves what was lent as it was; with no "no" the query is answered
module _ {A E : Type 0} where
  abbrev pub judged : (ℕ → A) → ℕ → Outcome A E → E → Outcome A E
  judged refused n answered entry =
      pick (eqb n not_refused) answered (record { answer = refused n; returned = record { number = n; values = [] }; exit = entry })

-- the count of connections is one less than the count of regions
abbrev pub shown : Option (List ℕ) → List ℕ → Outcome Routed (List ℕ)
shown none entry = routed Routed.Hidden entry
shown (some p) entry = routed (Routed.Count (length p - 1)) (written p entry)

-- the chosen route from the region of an installed bundle
abbrev pub shown_from : Model → Item → Maybe ℕ → List ℕ → Outcome Routed (List ℕ)
shown_from m i (Some r) entry = shown (chosen m i r) entry
shown_from m i None entry = shown none entry

abbrev pub route_outcome : Model → ℕ → ℕ → ℕ → ℕ → List ℕ → Outcome Routed (List ℕ)
route_outcome m location kind number version entry =
    judged Routed.Refused (first_no (route_questions m location kind entry))
    (shown_from m (item kind number version) (place_of m.bundles location) entry) entry

abbrev pub kept_outcome : List ℕ → List ℕ → Outcome Kept (List ℕ)
kept_outcome xs entry = kept (Kept.Wrote (length xs)) (written xs entry)

-- whether the region of an installed bundle sees an item
abbrev pub sees_from : Model → Item → Maybe ℕ → Bool
sees_from m i (Some r) = sees m i r
sees_from m i None = false

-- a find writes the candidates that its bundle sees
abbrev pub find_outcome : Model → Kind → ℕ → List ℕ → List ℕ → Outcome Kept (List ℕ)
find_outcome m kind location candidates entry =
    judged Kept.Refused (first_no (find_questions m location candidates entry))
    (kept_outcome (keep (λ n. sees_from m (item (kind_number kind) n 0) (place_of m.bundles location)) candidates) entry) entry

-- an event writes the listeners that see its item
abbrev pub event_outcome : Model → Kind → List ℕ → ℕ → List ℕ → Outcome Kept (List ℕ)
event_outcome m kind listeners number entry =
    judged Kept.Refused (first_no (event_questions m listeners entry))
    (kept_outcome (keep (λ l. sees_from m (item (kind_number kind) number 0) (place_of m.bundles l)) listeners) entry) entry
