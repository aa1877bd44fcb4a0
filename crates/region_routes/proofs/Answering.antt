-- What a query answers, by the first of its questions that is answered no.
use Rattle.std.specs.Prelude.{Some, None}
use mathlib.Core.Path.{◌≡◌, ◌∙◌}
use mathlib.Core.Bool.{true, false}
use mathlib.Core.List.{List, [], ◌∷◌}
use Prim.Native.Nat.{ℕ, ◌<◌, ◌≤◌}
use lib.ListN.{length}
use borrow.Author.Tests.{le-leb, lt-leb}
use Rattle.region_graph.specs.Size.{regions}
use Rattle.region_graph.specs.Refusals.{not_installed, not_a_kind, no_place}
use Rattle.region_graph.specs.Lists.{keep}
use Rattle.region_graph.specs.Model.{Model}
use Rattle.region_graph.specs.Promise.{place_of}
use Rattle.region_routes.specs.Chosen.{chosen, sees}
use Rattle.region_routes.specs.Hooks.{Outcome, Routed, Kept, item, kind_number, routed, kept, shown, kept_outcome, sees_from, all_installed, route_outcome}
use Rattle.region_routes.specs.Hooks.{find_outcome, event_outcome}
use Rattle.region_routes.specs.Resolve.{Candidate, is_offered, resolved, resolve_outcome}
use Rattle.region_routes.specs.Tables.{Room}
use Rattle.region_routes.specs.declared.Kind.{Kind}

module _ (m : Model) (l kind number version : ℕ) (entry : List ℕ) where
  pub route_not_installed : place_of m.bundles l ≡ None
      → ◌≡◌ {A = Outcome Routed (List ℕ)} (routed (Routed.Refused not_installed) entry) (route_outcome m l kind number version entry)
  route_not_installed e = rw e

  module _ {r : ℕ} (e : place_of m.bundles l ≡ Some r) where
    pub route_not_a_kind : 2 < kind → ◌≡◌ {A = Outcome Routed (List ℕ)} (routed (Routed.Refused not_a_kind) entry) (route_outcome m l kind number version entry)
    route_not_a_kind k = rw (e, lt-leb kind 2 k)

    pub route_no_place : kind ≤ 2 → length entry < regions
        → ◌≡◌ {A = Outcome Routed (List ℕ)} (routed (Routed.Refused no_place) entry) (route_outcome m l kind number version entry)
    route_no_place k h = rw (e, le-leb kind 2 k, lt-leb regions (length entry) h)

    pub route_answers : {a : Outcome Routed (List ℕ)} → kind ≤ 2 → regions ≤ length entry → a ≡ shown (chosen m (item kind number version) r) entry
        → a ≡ route_outcome m l kind number version entry
    route_answers k h q = rw (e, le-leb kind 2 k, le-leb regions (length entry) h) q

module _ (m : Model) (kind : Kind) (l : ℕ) (xs entry : List ℕ) where
  pub find_not_installed : place_of m.bundles l ≡ None
      → ◌≡◌ {A = Outcome Kept (List ℕ)} (kept (Kept.Refused not_installed) entry) (find_outcome m kind l xs entry)
  find_not_installed e = rw e

  module _ {r : ℕ} (e : place_of m.bundles l ≡ Some r) where
    pub find_no_place : length entry < length xs → ◌≡◌ {A = Outcome Kept (List ℕ)} (kept (Kept.Refused no_place) entry) (find_outcome m kind l xs entry)
    find_no_place h = rw (e, lt-leb (length xs) (length entry) h)

    pub find_answers : {a : Outcome Kept (List ℕ)} → length xs ≤ length entry
        → a ≡ kept_outcome (keep (λ n. sees m (item (kind_number kind) n 0) r) xs) entry → a ≡ find_outcome m kind l xs entry
    find_answers h q = rw (e, le-leb (length xs) (length entry) h) q

module _ (m : Model) (kind : Kind) (ls : List ℕ) (number : ℕ) (entry : List ℕ) where
  pub event_not_installed : all_installed m ls ≡ false
      → ◌≡◌ {A = Outcome Kept (List ℕ)} (kept (Kept.Refused not_installed) entry) (event_outcome m kind ls number entry)
  event_not_installed e = rw e

  pub event_no_place : all_installed m ls ≡ true → length entry < length ls
      → ◌≡◌ {A = Outcome Kept (List ℕ)} (kept (Kept.Refused no_place) entry) (event_outcome m kind ls number entry)
  event_no_place e h = rw (e, lt-leb (length ls) (length entry) h)

  pub event_answers : {a : Outcome Kept (List ℕ)} → all_installed m ls ≡ true → length ls ≤ length entry
      → a ≡ kept_outcome (keep (λ l. sees_from m (item (kind_number kind) number 0) (place_of m.bundles l)) ls) entry
      → a ≡ event_outcome m kind ls number entry
  event_answers e h q = rw (e, le-leb (length ls) (length entry) h) q

module _ (m : Model) (l : ℕ) (cs : List Candidate) (es ns vs : List ℕ) where
  -- the output lists
  abbrev outs : List (List ℕ)
  outs = es ∷ ns ∷ vs ∷ []

  pub resolve_not_installed : place_of m.bundles l ≡ None
      → ◌≡◌ {A = Outcome Kept (List (List ℕ))} (kept (Kept.Refused not_installed) outs) (resolve_outcome m l cs outs)
  resolve_not_installed e = rw e

  module _ {r : ℕ} (e : place_of m.bundles l ≡ Some r) where
    pub resolve_no_exporter_place : length es < length cs
        → ◌≡◌ {A = Outcome Kept (List (List ℕ))} (kept (Kept.Refused no_place) outs) (resolve_outcome m l cs outs)
    resolve_no_exporter_place h = rw (e, lt-leb (length cs) (length es) h)

    pub resolve_no_number_place : length cs ≤ length es → length ns < length cs
        → ◌≡◌ {A = Outcome Kept (List (List ℕ))} (kept (Kept.Refused no_place) outs) (resolve_outcome m l cs outs)
    resolve_no_number_place h k = rw (e, le-leb (length cs) (length es) h, lt-leb (length cs) (length ns) k)

    pub resolve_no_version_place : length cs ≤ length es → length cs ≤ length ns → length vs < length cs
        → ◌≡◌ {A = Outcome Kept (List (List ℕ))} (kept (Kept.Refused no_place) outs) (resolve_outcome m l cs outs)
    resolve_no_version_place h k j = rw (e, le-leb (length cs) (length es) h, le-leb (length cs) (length ns) k, lt-leb (length cs) (length vs) j)

    pub resolve_answers : {a : Outcome Kept (List (List ℕ))} → Room cs es ns vs → a ≡ resolved (keep (λ c. is_offered m c r) cs) outs
        → a ≡ resolve_outcome m l cs outs
    resolve_answers h q =
        q ∙ rw (e, le-leb (length cs) (length es) h.0, le-leb (length cs) (length ns) h.1.0, le-leb (length cs) (length vs) h.1.1)
