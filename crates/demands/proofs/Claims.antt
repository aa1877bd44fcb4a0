-- What the computed answers say of the routes, in demand 3's words.
use mathlib.Core.Path.{◌≡◌, refl, sym, ap, ◌∙◌, subst}
use mathlib.Core.Bool.{Bool, true, false}
use mathlib.Core.List.{List, [], ◌∷◌}
use mathlib.Core.Option.{Option, some, none}
use Prim.Native.Nat.{ℕ}
use native.Mathlib.Omega.{arith}
use lib.Dec.{eqb}
use lib.ListN.{length}
use borrow.Author.Tests.{eqb-true, ne_eqb}
use Rattle.region_graph.specs.Refusals.{not_refused, not_installed, no_place}
use Rattle.region_graph.specs.Lists.{pick, keep}
use Rattle.region_graph.specs.Model.{Model, Legal}
use Rattle.region_graph.specs.Calls.{ask, first_no}
use Rattle.region_graph.specs.Promise.{place_of}
use Rattle.region_graph.specs.declared.Item.{Item}
use Rattle.std.specs.Prelude.{Option as Maybe, Some, None}
use Rattle.region_routes.specs.Chosen.{chosen, sees}
use Rattle.region_routes.specs.Hooks.{Outcome, routed, kept, judged, shown, shown_from, sees_from, Routed, Kept}
use Rattle.region_routes.specs.declared.resolver.Candidate.{Candidate}
use Rattle.region_routes.specs.Resolve.{resolved}
use Rattle.demands.specs.Claim
use Rattle.demands.specs.Claim.{Selected, Seen, RouteSays, says_hidden, says_route, KeptSays, InstalledWhere}
use Rattle.region_routes.proofs.RouteLaws.{nonempty}
use Rattle.region_routes.proofs.Choosing.{chosen_best, chosen_none, sees_route, route_sees}

-- the elements that pass a test are those of which P holds, where the test says so
pub keep_selected : {X : Type 0} (P : X → Type 0) (p : X → Bool) → ((x : X) → p x ≡ true → P x) → ((x : X) → P x → p x ≡ true)
    → (xs : List X) → Selected P xs (keep p xs)
keep_selected P p f g [] = Claim.none
keep_selected P p f g (x ∷ xs) = go (p x) refl (keep_selected P p f g xs)
  where
    go : (b : Bool) → p x ≡ b → Selected P xs (keep p xs) → Selected P (x ∷ xs) (pick b (x ∷ keep p xs) (keep p xs))
    go true e s = Claim.kept (f x e) s
    go false e s = Claim.left (λ h. let z : ◌≡◌ {A = ℕ} 0 1 = ap (λ (t : Bool). pick t 1 0) (sym e ∙ g x h) in absurd (omega arith)) s

module _ (m : Model) (h : Legal m) where
  pub sees_seen : (i : Item) (r : ℕ) → sees m i r ≡ true → Seen m i r
  sees_seen i r e = sees_route m i r h e

  pub seen_sees : (i : Item) (r : ℕ) → Seen m i r → sees m i r ≡ true
  seen_sees i r s = route_sees m i r h s.0 s.1

  -- a listener hears of the item exactly where the set of regions-seeing has its region
  pub listener_sees : (i : Item) (l : ℕ) → sees_from m i (place_of m.bundles l) ≡ true → InstalledWhere m l (Seen m i)
  listener_sees i l e = go (place_of m.bundles l) refl e
    where
      go : (p : Maybe ℕ) → place_of m.bundles l ≡ p → sees_from m i p ≡ true → InstalledWhere m l (Seen m i)
      go (Some r) q k = (r, q, sees_seen i r k)
      go None q k = let z : ◌≡◌ {A = ℕ} 0 1 = ap (λ (t : Bool). pick t 1 0) k in absurd (omega arith)

  pub sees_listener : (i : Item) (l : ℕ) → InstalledWhere m l (Seen m i) → sees_from m i (place_of m.bundles l) ≡ true
  sees_listener i l s = rw s.1 (seen_sees i s.0 s.2)

  -- the outcome of a route call
  pub shown_says : (i : Item) (r : ℕ) (entry exit : List ℕ) (a : Routed)
      → ◌≡◌ {A = Outcome Routed (List ℕ)} (routed a exit) (shown (chosen m i r) entry) → RouteSays m i r entry exit a
  shown_says i r entry exit a e = go (chosen m i r) refl e
    where
      go : (o : Option (List ℕ)) → chosen m i r ≡ o → ◌≡◌ {A = Outcome Routed (List ℕ)} (routed a exit) (shown o entry)
          → RouteSays m i r entry exit a
      go none q k =
          subst (RouteSays m i r entry exit) (sym (ap (λ (x : Outcome Routed (List ℕ)). x.answer) k))
          (says_hidden (chosen_none m i r h q) (ap (λ (x : Outcome Routed (List ℕ)). x.exit) k))
      go (some p) q k =
          let b = chosen_best m i r h p q in
          subst (RouteSays m i r entry exit) (sym (ap (λ (x : Outcome Routed (List ℕ)). x.answer) k))
          (says_route p b (omega (arith, nonempty b.route)) (ap (λ (x : Outcome Routed (List ℕ)). x.exit) k))

-- the outcome of a hook
pub kept_says : {X E : Type 0} (put : List X → E → E) (P : X → Type 0) (p : X → Bool) → ((x : X) → p x ≡ true → P x)
    → ((x : X) → P x → p x ≡ true) → (xs : List X) (entry exit : E) (a : Kept)
    → ◌≡◌ {A = Outcome Kept E} (kept a exit) (kept (Kept.Wrote (length (keep p xs))) (put (keep p xs) entry)) → KeptSays put P xs entry exit a
kept_says {E = E} put P p f g xs entry exit a e = record {
  those = keep p xs;
  selected = keep_selected P p f g xs;
  count = ap (λ (x : Outcome Kept E). x.answer) e;
  exit_is = ap (λ (x : Outcome Kept E). x.exit) e;
}

-- those of which P holds are those of which Q holds, where the two say the same
selected_same : {X : Type 0} {P Q : X → Type 0} → ((x : X) → P x → Q x) → ((x : X) → Q x → P x) → {xs ys : List X} → Selected P xs ys
    → Selected Q xs ys
selected_same f g Claim.none = Claim.none
selected_same f g (Claim.kept {x = x} h s) = Claim.kept (f x h) (selected_same f g s)
selected_same f g (Claim.left {x = x} h s) = Claim.left (λ q. h (g x q)) (selected_same f g s)

pub kept_same : {X E : Type 0} {put : List X → E → E} {P Q : X → Type 0} → ((x : X) → P x → Q x) → ((x : X) → Q x → P x)
    → {xs : List X} {entry exit : E} {a : Kept} → KeptSays put P xs entry exit a → KeptSays put Q xs entry exit a
kept_same f g k = record { those = k.those; selected = selected_same f g k.selected; count = k.count; exit_is = k.exit_is }

-- a refused query leaves what was lent as it was
pub judged_kept : {A E : Type 0} (refused : ℕ → A) (n : ℕ) (o : Outcome A E) (entry : E) → (n ≡ not_refused → ⊥)
    → (judged refused n o entry).exit ≡ entry
judged_kept refused n o entry u =
    ap (λ (b : Bool). (pick b o (record { answer = refused n; returned = record { number = n; values = [] }; exit = entry })).exit) (ne_eqb n not_refused u)

-- the number of an answer is that of the first question answered no
pub judged_number : {A E : Type 0} (refused : ℕ → A) (n : ℕ) (o : Outcome A E) (entry : E) → o.returned.number ≡ not_refused
    → (judged refused n o entry).returned.number ≡ n
judged_number refused n o entry e = go (eqb n not_refused) refl
  where
    go : (b : Bool) → eqb n not_refused ≡ b
        → (pick b o (record { answer = refused n; returned = record { number = n; values = [] }; exit = entry })).returned.number ≡ n
    go true q = e ∙ sym (eqb-true n not_refused q)
    go false q = refl

pub shown_number : (m : Model) (i : Item) (p : Maybe ℕ) (entry : List ℕ) → (shown_from m i p entry).returned.number ≡ not_refused
shown_number m i (Some r) entry = go (chosen m i r)
  where
    go : (o : Option (List ℕ)) → (shown o entry).returned.number ≡ not_refused
    go none = refl
    go (some p) = refl
shown_number m i None entry = refl

-- the outcome of resolve by the answers to its two questions and by what is kept
abbrev pub resolve_judged : Bool → Bool → List Candidate → List (List ℕ) → Outcome Kept (List (List ℕ))
resolve_judged there room those entries =
    judged Kept.Refused (first_no (ask not_installed there ∷ ask no_place room ∷ [])) (resolved those entries) entries
