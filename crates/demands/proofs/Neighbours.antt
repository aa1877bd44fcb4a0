-- Two different graphs that agree on a set of regions; and, of the conditions of request C-12, what differs without one.
use mathlib.Core.Path.{◌≡◌, refl, sym, ap, ◌∙◌}
use mathlib.Core.Bool.{Bool, ◌||◌}
use mathlib.Core.List.{List, [], ◌∷◌, ◌++◌}
use Prim.Native.Nat.{ℕ}
use native.Mathlib.Omega.{arith}
use lib.Dec.{eqb}
use lib.ListN.{get_or}
use borrow.Author.Rules.{rules}
use Rattle.region_graph.specs.Lists.{All}
use Rattle.region_graph.specs.Model.{Model, Part, nothing}
use Rattle.region_graph.specs.Calls.{Call, run}
use Rattle.region_graph.specs.Record.{Valid, store, meaning}
use Rattle.region_graph.specs.declared.Graph.{Graph}
use Rattle.region_graph.proofs.Legal.{Words}
use Rattle.region_graph.proofs.Storing.{stores_valid, stores_means}
use Rattle.region_routes.specs.Chosen.{chosen_by, chosen}
use Rattle.region_routes.specs.Hooks.{kept, find_outcome, Wrote}
use Rattle.region_routes.specs.declared.Kind.{Kind}
use Rattle.demands.specs.Isolation.{restricted, Agree}
use Rattle.demands.specs.JointTable.{bundle_of, passing, plain, ranges, graph_g}
use Rattle.demands.proofs.Rows.{legal, words_g}

abbrev one_and_two : ℕ → Bool
one_and_two r = eqb r 1 || eqb r 2

-- agrees with G on the regions 1 and 2: bundle 10 is in region 3, from which a connection leads to 1, and there is no region 0
abbrev neighbours : List Call
neighbours =
    Call.add_region 1
    ∷ Call.add_region 2
    ∷ Call.add_region 3
    ∷ bundle_of 10 3 (plain (1 ∷ 2 ∷ 3 ∷ [])) (7 ∷ [])
    ∷ bundle_of 20 1 (plain (1 ∷ [])) []
    ∷ bundle_of 30 2 (plain (1 ∷ 2 ∷ 3 ∷ [])) []
    ∷ passing 1 2 [] (ranges (1 ∷ 3 ∷ [])) (Part.listed [])
    ∷ passing 3 1 (20 ∷ []) Part.everything Part.everything
    ∷ []

words_neighbours : All Words neighbours
words_neighbours = search rules depth 30 fits 4000

-- the record that means what calls from nothing give
abbrev stored : List Call → Graph
stored cs = store (run nothing cs)

stored_valid : (cs : List Call) → All Words cs → Valid (stored cs)
stored_valid cs w = stores_valid (run nothing cs) (legal cs w) refl

stored_means : (cs : List Call) → All Words cs → meaning (stored cs) ≡ run nothing cs
stored_means cs w = stores_means (run nothing cs) (legal cs w) refl

models_agree : Agree one_and_two (run nothing graph_g) (run nothing neighbours)
models_agree = record { same = refl; closed = (refl, tt) }

-- the theorem's conditions are met by two records that differ
pub agree_example : Valid (stored graph_g) × Valid (stored neighbours) × Agree one_and_two (meaning (stored graph_g)) (meaning (stored neighbours))
    × (stored graph_g ≡ stored neighbours → ⊥)
agree_example = (
  stored_valid graph_g words_g,
  stored_valid neighbours words_neighbours,
  rw (stored_means graph_g words_g, stored_means neighbours words_neighbours) models_agree,
  λ e. differ (sym (stored_means graph_g words_g) ∙ ap meaning e ∙ stored_means neighbours words_neighbours),
)
  where
    differ : run nothing graph_g ≡ run nothing neighbours → ⊥
    differ e = let z : ◌≡◌ {A = ℕ} 0 1 = ap (λ (m : Model). get_or m.regions 0 0) e in absurd (omega arith)

-- in the graph of some calls a find of the bundle at l for one number keeps it, or does not
abbrev Finds : List Call → Kind → ℕ → ℕ → Type 0
Finds cs k l x = find_outcome (run nothing cs) k l (x ∷ []) (0 ∷ []) ≡ kept (Wrote 1) (x ∷ [])

abbrev Misses : List Call → Kind → ℕ → ℕ → Type 0
Misses cs k l x = find_outcome (run nothing cs) k l (x ∷ []) (0 ∷ []) ≡ kept (Wrote 0) (0 ∷ [])

-- a bundle outside the set
pub outside_differs : Misses graph_g Kind.Bundle 10 20 × Finds neighbours Kind.Bundle 10 20
unfolding chosen chosen_by
outside_differs = (refl, refl)

-- G with a region 3, where bundle 40 has the services, and a connection to it from region 1 that passes all services
abbrev opened : List ℕ → List Call
opened services = graph_g ++ (Call.add_region 3 ∷ bundle_of 40 3 [] services ∷ passing 1 3 [] (Part.listed []) Part.everything ∷ [])

-- the restrictions are the same, but that connection leads out of the set
pub leading_out_differs : (restricted one_and_two (run nothing (opened [])) ≡ restricted one_and_two (run nothing (opened (7 ∷ []))))
    × Misses (opened []) Kind.Service 20 7 × Finds (opened (7 ∷ [])) Kind.Service 20 7
unfolding chosen chosen_by
leading_out_differs = (refl, refl, refl)

-- G with another bundle 30, which lacks package 3
abbrev exchanged : List Call
exchanged = graph_g ++ (Call.uninstall 30 ∷ bundle_of 30 2 (plain (1 ∷ 2 ∷ [])) [] ∷ [])

-- the regions of the set and the connections leaving them are the same, but a bundle in them is not
pub other_bundle_differs : ((restricted one_and_two (run nothing graph_g)).regions ≡ (restricted one_and_two (run nothing exchanged)).regions)
    × ((restricted one_and_two (run nothing graph_g)).connections ≡ (restricted one_and_two (run nothing exchanged)).connections)
    × Finds graph_g Kind.Package 20 3 × Misses exchanged Kind.Package 20 3
unfolding chosen chosen_by
other_bundle_differs = (refl, refl, refl, refl)
