-- Document 02, C-14 and C-15: what resolve answers and leaves in the output lists that it is lent.
use Rattle.std.specs.Prelude.{Option, Some, None}
use Rattle.std.specs.Prelude.{Bool, true, false, ◌&&◌, List, [], ◌∷◌, map, ℕ, eqb, leb, length}
use Rattle.region_graph.specs.Refusals.{not_installed, no_place}
use Rattle.region_graph.specs.Lists.{keep}
use Rattle.region_graph.specs.Model.{Model}
use Rattle.region_graph.specs.Calls.{Question, ask, first_no}
use Rattle.region_graph.specs.Items.{crosses}
use Rattle.region_graph.specs.Promise.{place_of, provider_place}
use Rattle.region_graph.specs.declared.Item.{Item}
pub use Rattle.region_routes.specs.declared.resolver.Candidate.{Candidate}
use Rattle.region_routes.specs.declared.resolver.Candidates.{Candidates}
use Rattle.region_routes.specs.Chosen.{chosen_by, found}
use Rattle.region_routes.specs.Hooks.{kind_number, item, written, Outcome, Kept, kept, is_installed, judged}
use Rattle.region_routes.specs.declared.Kind.TheVariants as Kind

abbrev pub no_candidate : Candidate
no_candidate = record { exporter = 0; number = 0; version = 0 }

-- the candidates whose parts stand at equal places of the lists: the shortest list counts them
abbrev pub candidates : List ℕ → List ℕ → List ℕ → List Candidate
candidates [] ns vs = []
candidates (e ∷ es) [] vs = []
candidates (e ∷ es) (n ∷ ns) [] = []
candidates (e ∷ es) (n ∷ ns) (v ∷ vs) = record { exporter = e; number = n; version = v } ∷ candidates es ns vs

-- those that are handed in as lists of their parts
abbrev pub candidate_list : Candidates → List Candidate
candidate_list c = candidates c.exporters.now c.packages.now c.versions.now

-- a list for each part
abbrev pub parts : List Candidate → List (List ℕ)
parts cs = map (λ c. c.exporter) cs ∷ map (λ c. c.number) cs ∷ map (λ c. c.version) cs ∷ []

abbrev pub package_of : Candidate → Item
package_of c = item (kind_number Kind.Package) c.number c.version

-- whether connections that pass the item lead from region r to region t; whether t holds it is not asked
unfoldable pub reaches : Model → Item → ℕ → ℕ → Bool
reaches m i t r = found (chosen_by (crosses m i) (eqb t) r)

-- the same for a candidate's package, with the place of the exporter that exports it
abbrev pub offered_at : Model → Candidate → ℕ → Option ℕ → Bool
offered_at m c r (Some t) = reaches m (package_of c) t r
offered_at m c r None = false

-- whether the exporter is installed and exports the package, and region r has a route for the package that ends in the exporter's region
abbrev pub is_offered : Model → Candidate → ℕ → Bool
is_offered m c r = offered_at m c r (provider_place m.bundles c.exporter (package_of c))

-- the same of the region of an installed bundle
abbrev pub offered_from : Model → Candidate → Option ℕ → Bool
offered_from m c (Some r) = is_offered m c r
offered_from m c None = false

-- each output list has a place for each candidate
abbrev pub places_for : ℕ → List (List ℕ) → Bool
places_for n [] = true
places_for n (entry ∷ entries) = leb n (length entry) && places_for n entries

abbrev pub resolve_questions : Model → ℕ → List Candidate → List (List ℕ) → List Question
resolve_questions m location cs entries =
    ask not_installed (is_installed (place_of m.bundles location))
    ∷ ask no_place (places_for (length cs) entries)
    ∷ []

-- each part stands at the start of its output list
abbrev pub written_each : List (List ℕ) → List (List ℕ) → List (List ℕ)
written_each [] entries = entries
written_each (xs ∷ xss) [] = []
written_each (xs ∷ xss) (entry ∷ entries) = written xs entry ∷ written_each xss entries

abbrev pub resolved : List Candidate → List (List ℕ) → Outcome Kept (List (List ℕ))
resolved cs entries = kept (Kept.Wrote (length cs)) (written_each (parts cs) entries)

-- resolve writes the candidates that its bundle is offered
abbrev pub resolve_outcome : Model → ℕ → List Candidate → List (List ℕ) → Outcome Kept (List (List ℕ))
resolve_outcome m location cs entries =
    judged Kept.Refused (first_no (resolve_questions m location cs entries))
    (resolved (keep (λ c. offered_from m c (place_of m.bundles location)) cs) entries) entries
