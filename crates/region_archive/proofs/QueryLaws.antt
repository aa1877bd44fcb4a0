-- What the archive query answers: a refused read, then questions 12 and 13 of the graph of an accepted one, then the set of those that see
-- the item.
use mathlib.Core.Path.{◌≡◌, refl, sym, ap, ◌∙◌}
use mathlib.Core.Bool.{Bool}
use mathlib.Core.List.{List, [], ◌∷◌, ◌++◌}
use Prim.Native.Nat.{ℕ, ◌≤◌, ◌<◌}
use borrow.Author.Tests.{le-leb, lt-leb, ne_eqb}
use lib.Dec.{eqb, leb}
use Rattle.region_graph.specs.Refusals.{not_refused, not_installed, not_a_kind}
use Rattle.region_graph.specs.Lists.{pick}
use Rattle.region_graph.specs.Sets.{has, set_of}
use Rattle.region_graph.specs.Model.{Model, Legal}
use Rattle.region_graph.specs.Calls.{Question, ask, first_no}
use Rattle.region_graph.specs.Promise.{place_of}
use Rattle.std.specs.Prelude.{Option, Some, None}
use Rattle.region_graph.proofs.Legal.{all_yes, first_no_stops, first_no_goes_on}
use Rattle.region_routes.specs.Chosen.{sees}
use Rattle.region_routes.specs.Hooks.{item, is_installed, sees_from}
use Rattle.region_routes.specs.Tables.{stands_in}
use Rattle.region_routes.proofs.Judging.{stands_sees}
use Rattle.region_archive.specs.File.{FileMeaning, read_model, read_questions, read_number}
use Rattle.region_archive.specs.Promise.{seen_number, hidden_number, query_answer}

-- questions 12 and 13
abbrev asked : Option ℕ → Bool → List Question
asked p b = ask not_installed (is_installed p) ∷ ask not_a_kind b ∷ []

module _ {s : List ℕ} (f : FileMeaning s) (location kind number version : ℕ) where
  -- the answer where the first question answered no has the number n
  abbrev answer_by : Option ℕ → ℕ → ℕ
  answer_by p n = pick (eqb n not_refused) (pick (sees_from (read_model f) (item kind number version) p) seen_number hidden_number) n

  -- a refused read
  pub query_refused : {k : ℕ} → k ≡ read_number f → (k ≡ not_refused → ⊥) → k ≡ query_answer f location kind number version
  query_refused {k} e u =
      let p = place_of (read_model f).bundles location in
      let q : first_no (read_questions f ++ asked p (leb kind 2)) ≡ k =
      first_no_stops (read_questions f) (asked p (leb kind 2)) (sym e) (ne_eqb k not_refused u) in
      let told = pick (sees_from (read_model f) (item kind number version) p) seen_number hidden_number in
      sym (ap (answer_by p) q ∙ ap (λ (b : Bool). pick b told k) (ne_eqb k not_refused u))

  -- an accepted one, the model of the record that it gave, and the place of the location there
  module _ (e : not_refused ≡ read_number f) {m : Model} (g : m ≡ read_model f) {p : Option ℕ} (q : place_of m.bundles location ≡ p) where
    accepted : query_answer f location kind number version ≡ answer_by p (first_no (asked p (leb kind 2)))
    accepted =
        ap (answer_by (place_of (read_model f).bundles location))
        (first_no_goes_on (read_questions f) (asked (place_of (read_model f).bundles location) (leb kind 2))
        (all_yes (read_questions f) (refl, (refl, (refl, tt))) (sym e)))
        ∙ ap (λ (x : Option ℕ). answer_by x (first_no (asked x (leb kind 2)))) (ap (λ (n : Model). place_of n.bundles location) (sym g) ∙ q)

    -- question 12
    pub query_outside : p ≡ None → not_installed ≡ query_answer f location kind number version
    query_outside n = sym (accepted ∙ ap (λ (x : Option ℕ). answer_by x (first_no (asked x (leb kind 2)))) n)

    module _ {r : ℕ} (w : p ≡ Some r) where
      within : (b : Bool) → leb kind 2 ≡ b → query_answer f location kind number version ≡ answer_by (Some r) (first_no (asked (Some r) b))
      within b k = accepted ∙ (λ i. answer_by (w i) (first_no (asked (w i) (k i))))

      -- question 13
      pub query_unknown : 2 < kind → not_a_kind ≡ query_answer f location kind number version
      query_unknown h = sym (within _ (lt-leb kind 2 h))

      -- whether the region is in the set of those that see the item
      pub query_told : kind ≤ 2 → Legal m → {set : ℕ} → set ≡ set_of (sees m (item kind number version)) → {b t : Bool} → b ≡ has set r → b ≡ t
          → pick t seen_number hidden_number ≡ query_answer f location kind number version
      query_told h l {set} d {b} {t} a c =
          let i = item kind number version in
          let v : has set r ≡ sees m i r =
          ap (λ (x : ℕ). has x r) d ∙ ap (stands_in (set_of (sees m i))) (sym (q ∙ w)) ∙ stands_sees m i l location ∙ ap (sees_from m i) (q ∙ w) in
          let u : t ≡ sees (read_model f) i r = sym c ∙ a ∙ v ∙ ap (λ (n : Model). sees n i r) g in
          ap (λ (x : Bool). pick x seen_number hidden_number) u ∙ sym (within _ (le-leb kind 2 h))
