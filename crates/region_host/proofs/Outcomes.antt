-- The outcome of a query, for C and back.
use mathlib.Core.Path.{◌≡◌, refl, ap, ◌∙◌}
use mathlib.Core.Bool.{Bool, true, false}
use mathlib.Core.List.{List, []}
use mathlib.Core.Option.{Option, some, none}
use Rattle.std.specs.Prelude.{Option as Maybe, Some, None}
use Prim.Native.Nat.{ℕ}
use lib.Dec.{eqb}
use lib.ListN.{length}
use Rattle.region_graph.specs.Refusals.{not_refused}
use Rattle.region_graph.specs.Lists.{pick, keep}
use Rattle.region_graph.specs.Model.{Model}
use Rattle.region_graph.specs.Calls.{Question, first_no}
use Rattle.region_graph.specs.Promise.{place_of}
use Rattle.region_graph.specs.declared.Item.{Item}
use Rattle.region_routes.specs.Chosen.{chosen}
use Rattle.region_routes.specs.Hooks.{Routed, Kept}
use Rattle.region_routes.specs.Hooks.{Returned, Outcome, kind_number, item, written, routed_as, kept_as, route_questions, find_questions, event_questions}
use Rattle.region_routes.specs.Hooks.{kept, judged, shown, shown_from, route_outcome, sees_from, find_outcome, event_outcome}
use Rattle.region_routes.specs.declared.resolver.Candidate.{Candidate}
use Rattle.region_routes.specs.Resolve.{parts, offered_from, resolve_questions, written_each, resolve_outcome}
use Rattle.region_routes.specs.declared.Kind.{Kind}
use Rattle.region_archive.specs.Promise.{Written, written_as, archived, image_outcome}
use Rattle.region_host.specs.CNumbers.{CAnswer, answered, for_c}

module _ {A E : Type 0} where
  -- what an answer is for C, with what was lent beside it
  pub handed_on : (value : A → ℕ) {o p : Outcome A E} {n : ℕ} → n ≡ value o.answer → o ≡ p
      → ◌≡◌ {A = CAnswer E} (answered n o.exit) (for_c value p)
  handed_on value {o} e q = ap (λ (n : ℕ). answered n o.exit) e ∙ ap (for_c value) q

  -- an outcome is an answer, what is returned for it, and what was lent
  abbrev outcome : (A → Returned) → A → E → Outcome A E
  outcome gives a exit = record { answer = a; returned = gives a; exit = exit }

  abbrev pub Whole : (A → Returned) → Outcome A E → Type 0
  Whole gives o = ◌≡◌ {A = Outcome A E} (outcome gives o.answer o.exit) o

  -- what C reads in the number that it gets is the answer, where that is had back from its number
  pub read_off : (gives : A → Returned) (value : A → ℕ) (of : ℕ → A) {o : Outcome A E} {v : ℕ} {exit : E} → Whole gives o
      → of (value o.answer) ≡ o.answer → ◌≡◌ {A = CAnswer E} (answered v exit) (for_c value o)
      → ◌≡◌ {A = Outcome A E} (outcome gives (of v) exit) o
  read_off gives value of {o} w b e =
      (λ i. outcome gives (of (e i).value) (e i).exit) ∙ ap (λ (a : A). outcome gives a o.exit) b ∙ w

  pub judged_whole : (gives : A → Returned) (refused : ℕ → A) → ((n : ℕ) → gives (refused n) ≡ record { number = n; values = [] })
      → (n : ℕ) {o : Outcome A E} (entry : E)
      → Whole gives o → Whole gives (judged refused n o entry)
  judged_whole gives refused r n {o} entry w = go (eqb n not_refused)
    where
      go : (b : Bool) → Whole gives (pick b o (record { answer = refused n; returned = record { number = n; values = [] }; exit = entry }))
      go true = w
      go false = ap (λ (t : Returned). record { answer = refused n; returned = t; exit = entry }) (r n)

shown_whole : (x : Option (List ℕ)) (entry : List ℕ) → Whole routed_as (shown x entry)
shown_whole none entry = refl
shown_whole (some p) entry = refl

shown_from_whole : (m : Model) (i : Item) (p : Maybe ℕ) (entry : List ℕ) → Whole routed_as (shown_from m i p entry)
shown_from_whole m i (Some r) entry = shown_whole (chosen m i r) entry
shown_from_whole m i None entry = refl

pub route_whole : (m : Model) (l kind number version : ℕ) (entry : List ℕ) → Whole routed_as (route_outcome m l kind number version entry)
route_whole m l kind number version entry =
    judged_whole routed_as Routed.Refused (λ n. refl) (first_no (route_questions m l kind entry)) entry
    (shown_from_whole m (item kind number version) (place_of m.bundles l) entry)

kept_whole : {E : Type 0} (n : ℕ) (a : Kept) (exit entry : E) → Whole kept_as (judged Kept.Refused n (kept a exit) entry)
kept_whole n a exit entry = judged_whole kept_as Kept.Refused (λ n. refl) n {o = kept a exit} entry refl

pub find_whole : (m : Model) (k : Kind) (l : ℕ) (xs entry : List ℕ) → Whole kept_as (find_outcome m k l xs entry)
find_whole m k l xs entry =
    let those = keep (λ n. sees_from m (item (kind_number k) n 0) (place_of m.bundles l)) xs in
    kept_whole (first_no (find_questions m l xs entry)) (Kept.Wrote (length those)) (written those entry) entry

pub event_whole : (m : Model) (k : Kind) (xs : List ℕ) (number : ℕ) (entry : List ℕ) → Whole kept_as (event_outcome m k xs number entry)
event_whole m k xs number entry =
    let those = keep (λ l. sees_from m (item (kind_number k) number 0) (place_of m.bundles l)) xs in
    kept_whole (first_no (event_questions m xs entry)) (Kept.Wrote (length those)) (written those entry) entry

pub resolve_whole : (m : Model) (l : ℕ) (cs : List Candidate) (entries : List (List ℕ)) → Whole kept_as (resolve_outcome m l cs entries)
resolve_whole m l cs entries =
    let those = keep (λ c. offered_from m c (place_of m.bundles l)) cs in
    kept_whole (first_no (resolve_questions m l cs entries)) (Kept.Wrote (length those)) (written_each (parts those) entries) entries

pub image_whole : (qs : List Question) (s entry : List ℕ) → Whole written_as (image_outcome qs s entry)
image_whole qs s entry =
    judged_whole written_as Written.Refused (λ n. refl) (first_no qs) {o = archived (Written.Bytes (length s)) (written s entry)} entry refl
