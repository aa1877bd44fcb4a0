-- The joint table of document 01, and what document 02 adds to it.
use mathlib.Core.Path.{◌≡◌, refl}
use mathlib.Core.List.{List, [], ◌∷◌}
use mathlib.Core.Option.{some, none}
use Prim.Native.Nat.{ℕ, suc}
use lib.ListN.{length}
use borrow.Author.Rules.{rules}
use Rattle.region_graph.specs.Lists.{All, keep}
use Rattle.region_graph.specs.Model.{Legal, nothing}
use Rattle.region_graph.specs.Calls.{Call, run}
use Rattle.region_graph.specs.Promise.{place_of}
use Rattle.region_graph.specs.declared.Item.{Item}
use Rattle.std.specs.Prelude.{Some}
use Rattle.region_graph.proofs.Legal.{legal_nothing, legal_run, Words}
use Rattle.region_routes.specs.Chosen.{chosen_by, chosen}
use Rattle.region_routes.specs.Hooks.{item}
use Rattle.region_routes.specs.declared.resolver.Candidate.{Candidate}
use Rattle.region_routes.specs.Resolve.{candidates, reaches, is_offered}
use Rattle.demands.specs.JointTable.{Says, RowHolds, rows, resolves, routes, hides}
use Rattle.demands.specs.JointTable.{graph_g, packages_of_30, cycle, diamond, two_exporters, editions, about_editions}
use Rattle.region_routes.proofs.Choosing.{chosen_best, chosen_none}
use Rattle.demands.proofs.Claims.{keep_selected}
use Rattle.demands.proofs.Exporters.{test_offered, offered_test}

module _ (cs : List Call) (w : All Words cs) where
  pub legal : Legal (run nothing cs)
  legal = legal_run nothing cs legal_nothing w

  -- a route that was computed, or that there is none
  shows : (l r : ℕ) (i : Item) (p : List ℕ) (n : ℕ) → place_of (run nothing cs).bundles l ≡ Some r → chosen (run nothing cs) i r ≡ some p
      → length p ≡ suc n → Says cs (routes l i p n)
  shows l r i p n e f k = (r, e, (chosen_best (run nothing cs) i r legal p f, k))

  shows_none : (l r : ℕ) (i : Item) → place_of (run nothing cs).bundles l ≡ Some r → chosen (run nothing cs) i r ≡ none → Says cs (hides l i)
  shows_none l r i e f = (r, e, chosen_none (run nothing cs) i r legal f)

  -- what is offered, computed
  keeps : (l r : ℕ) (xs : List Candidate) → place_of (run nothing cs).bundles l ≡ Some r
      → Says cs (resolves l xs (keep (λ c. is_offered (run nothing cs) c r) xs))
  keeps l r xs e = (
    r,
    e,
    keep_selected _ (λ c. is_offered (run nothing cs) c r) (λ c. test_offered (run nothing cs) legal c r)
        (λ c. offered_test (run nothing cs) legal c r) xs,
  )

pub words_g : All Words graph_g
words_g = search rules depth 30 fits 4000

words_cycle : All Words cycle
words_cycle = search rules depth 30 fits 4000

words_diamond : All Words diamond
words_diamond = search rules depth 30 fits 4000

words_two_exporters : All Words two_exporters
words_two_exporters = search rules depth 30 fits 4000

words_editions : All Words editions
words_editions = search rules depth 30 fits 4000

-- of three versions one is passed
editions_say : All (Says editions) (about_editions)
unfolding chosen chosen_by reaches
editions_say = (
  shows_none editions words_editions 10 0 (item 1 5 8) refl refl,
  (
    shows editions words_editions 10 0 (item 1 5 9) _ _ refl refl refl,
    (
      shows_none editions words_editions 10 0 (item 1 5 10) refl refl,
      (keeps editions words_editions 10 0 (candidates (20 ∷ 20 ∷ 20 ∷ []) (5 ∷ 5 ∷ 5 ∷ []) (8 ∷ 9 ∷ 10 ∷ [])) refl, tt),
    ),
  ),
)

-- every row of the table holds
pub every_row : All RowHolds rows
unfolding chosen chosen_by reaches
every_row = (
  (refl, (keeps graph_g words_g 10 0 packages_of_30 refl, tt)),
  (
    (refl, (keeps graph_g words_g 20 1 packages_of_30 refl, tt)),
    (
      (refl, (shows graph_g words_g 10 0 (item 1 1 0) _ _ refl refl refl, tt)),
      (
        (refl, (shows_none graph_g words_g 10 0 (item 1 3 0) refl refl, tt)),
        (
          (refl, (shows_none graph_g words_g 20 1 (item 0 30 0) refl refl, tt)),
          (
            (refl, (shows graph_g words_g 10 0 (item 0 10 0) _ _ refl refl refl, tt)),
            (
              (refl, (shows_none cycle words_cycle 10 3 (item 2 77 0) refl refl, (shows_none cycle words_cycle 20 4 (item 2 77 0) refl refl, tt))),
              (
                (refl, (shows diamond words_diamond 10 0 (item 2 5 0) _ _ refl refl refl, tt)),
                (
                  (refl, tt),
                  (
                    (refl, tt),
                    (
                      (refl, (keeps two_exporters words_two_exporters 10 0 (candidates (20 ∷ 90 ∷ 20 ∷ []) (1 ∷ 1 ∷ 1 ∷ []) (0 ∷ 0 ∷ 0 ∷ [])) refl, tt)),
                      ((refl, editions_say), ((refl, tt), tt)),
                    ),
                  ),
                ),
              ),
            ),
          ),
        ),
      ),
    ),
  ),
)
