-- A section's next element, in ascending order: its call accepts it, and puts it at the section's end.
use mathlib.Core.Path.{◌≡◌, refl, sym, ap, ◌∙◌}
use mathlib.Core.Bool.{Bool, true, false, not}
use mathlib.Core.List.{List, [], ◌∷◌, ◌++◌}
use Prim.Native.Nat.{ℕ, ◌+◌, ◌*◌, ◌<◌}
use native.Mathlib.Omega.{arith}
use native.Mathlib.Decide.{ℕ_discrete}
use lib.Dec.{ltb, eqb}
use lib.ListN.{length}
use borrow.Author.Tests.{lt-ltb, ltb-true, le-ltb, le-leb, eq-eqb, ne_eqb}
use Rattle.region_graph.specs.Size.{regions, most_bundles, most_connections, most_provided, most_listed}
use Rattle.region_graph.specs.Refusals.{not_refused}
use Rattle.region_graph.specs.Lists.{All, exists, every, ascends, member, insert_by}
use Rattle.region_graph.specs.Model.{Model, PackageEntry, Filter, Part, Connection, Word, SortedPart, LegalEntry, LegalFilter}
use Rattle.region_graph.specs.Model.{entry_before, ordered, connection_before}
use Rattle.region_graph.specs.Calls.{Call, Question, first_no, questions, number, accepted, after, is_region, at_location, joins}
use Rattle.region_graph.specs.Calls.{of_listed, part_within, filter_within, filter_ascends}
use Rattle.region_graph.proofs.Lists.{and_yes, and_left, and_right, pick_yes, all_map, all_every, member_all}
use Rattle.region_graph.proofs.Ascending.{none_any, connection_order}
use Rattle.region_archive.specs.RecordFields.{Elem, most_records, element_before, LegalElem}
use Rattle.region_archive.specs.declared.record_fields.Section.{Section}

-- the model with these elements in the section, those before it as they are, and nothing in the one after it
abbrev pub filled : (s : Section) → Model → List (Elem s) → Model
filled (Section.Bundles v) m bs = record { regions = m.regions; bundles = bs; connections = [] }
filled (Section.Connections v) m cs = record { regions = m.regions; bundles = m.bundles; connections = cs }

abbrev pub call : (s : Section) → Elem s → Call
call (Section.Bundles v) b = Call.install b
call (Section.Connections v) c = Call.connect c

-- an element that comes before no other is put at the end
insert_last : {A : Type 0} (before : A → A → Bool) (x : A) (xs : List A) → All (λ y. before x y ≡ false) xs
    → insert_by before x xs ≡ xs ++ (x ∷ [])
insert_last before x [] h = refl
insert_last {A} before x (y ∷ ys) h = rw h.0 (ap (λ (l : List A). y ∷ l) (insert_last before x ys h.1))

-- questions that are all answered yes refuse nothing
none_no : (qs : List Question) → All (λ q. q.yes ≡ true) qs → first_no qs ≡ not_refused
none_no [] h = refl
none_no (q ∷ qs) h = pick_yes (first_no qs) q.number h.0 ∙ none_no qs h.1

-- what an accepted call does is done
accepted_after : (m : Model) (c : Call) → number m c ≡ not_refused → after m c ≡ accepted m c
accepted_after m c e = pick_yes (accepted m c) m (eq-eqb (number m c) not_refused e)

-- the next region is accepted, and put at the end of the regions alone
abbrev pub only : List ℕ → Model
only rs = record { regions = rs; bundles = []; connections = [] }

module _ (rs : List ℕ) (r : ℕ) (a : All (λ n. ltb n r ≡ true) rs) where
  pub region_taken : r < regions → number (only rs) (Call.add_region r) ≡ not_refused
  region_taken h =
      let other = all_map (λ n. ltb n r ≡ true) (λ n. eqb r n ≡ false) (λ n e. ne_eqb r n (λ f. omega (arith, ltb-true n r e))) rs a in
      none_no (questions (only rs) (Call.add_region r)) (lt-ltb r regions h, (ap not (none_any (eqb r) rs other), tt))

  pub region_joined : number (only rs) (Call.add_region r) ≡ not_refused → after (only rs) (Call.add_region r) ≡ only (rs ++ (r ∷ []))
  region_joined e =
      let none = all_map (λ n. ltb n r ≡ true) (λ n. ltb r n ≡ false) (λ n e. le-ltb r n (omega (arith, ltb-true n r e))) rs a in
      accepted_after (only rs) (Call.add_region r) e ∙ ap only (insert_last ltb r rs none)

-- the test whether an element's place is taken
abbrev same_place : (k : Section) → Elem k → Elem k → Bool
same_place (Section.Bundles v) b = at_location b.location
same_place (Section.Connections v) c = joins c.source c.target

-- what comes before an element has another place, and does not come after it
module _ (x y : Connection) (e : connection_before y x ≡ true) where
  abbrev most : ℕ
  most = x.target + y.target + 1

  less : y.source * most + y.target < x.source * most + x.target
  less = ltb-true _ _ (sym (connection_order most y x (omega arith) (omega arith)) ∙ e)

  apart : Dec (y.source ≡ x.source) → Dec (y.target ≡ x.target) → joins x.source x.target y ≡ false
  apart (yes s) (yes t) = absurd (omega (arith, less, ap (λ (n : ℕ). n * most) s))
  apart (yes s) (no t) = and_right (eq-eqb y.source x.source s) (ne_eqb y.target x.target t)
  apart (no s) _ = and_left (eqb y.target x.target) (ne_eqb y.source x.source s)

before_other : (k : Section) (x y : Elem k) → element_before k y x ≡ true → (same_place k x y ≡ false) × (element_before k x y ≡ false)
before_other (Section.Bundles v) x y e =
    let h = ltb-true y.location x.location e in
    (ne_eqb y.location x.location (λ f. omega arith), le-ltb x.location y.location (omega arith))
before_other (Section.Connections v) x y e = (
  apart x y e (ℕ_discrete y.source x.source) (ℕ_discrete y.target x.target),
  connection_order (most x y e) x y (omega arith) (omega arith)
      ∙ le-ltb (x.source * most x y e + x.target) (y.source * most x y e + y.target) (omega (arith, less x y e)),
)

-- a region of a legal model is one
below : (rs : List ℕ) → All (λ r. r < regions) rs → (r : ℕ) → member r rs ≡ true → is_region r ≡ true
below rs n r h = lt-ltb r regions (member_all (λ s. s < regions) r rs n h)

-- a legal part, and a legal filter, passes the questions about lists
part_passes : {A : Type 0} (before : A → A → Bool) (Good : A → Type 0) (p : Part A) → SortedPart before Good p
    → (part_within p ≡ true) × (of_listed (ascends before) p ≡ true)
part_passes before Good (Part.listed xs) h = (le-leb (length xs) most_listed h.few, h.ascend)
part_passes before Good Part.everything h = (refl, refl)

filter_passes : (f : Filter) → LegalFilter f → (filter_within f ≡ true) × (filter_ascends f ≡ true)
filter_passes f h =
    let p = part_passes entry_before LegalEntry f.packages h.packages in
    let s = part_passes ltb Word f.services h.services in
    (and_yes (le-leb (length f.bundles) most_listed h.bundles.few) (and_yes p.0 s.0), and_yes h.bundles.ascend (and_yes p.1 s.1))

-- and the question about the versions of its entries
entries_pass : (p : Part PackageEntry) → SortedPart entry_before LegalEntry p → of_listed (every ordered) p ≡ true
entries_pass (Part.listed es) h = all_every LegalEntry ordered (λ e l. l.order) es h.each
entries_pass Part.everything h = refl

module _ (k : Section) (m : Model) (xs : List (Elem k)) (x : Elem k) (a : All (λ y. element_before k y x ≡ true) xs) where
  absent : exists (same_place k x) xs ≡ false
  absent =
      none_any (same_place k x) xs
      (all_map (λ y. element_before k y x ≡ true) (λ y. same_place k x y ≡ false) (λ y e. (before_other k x y e).0) xs a)

  -- the next element's call puts it at the section's end
  pub joined : number (filled k m xs) (call k x) ≡ not_refused → after (filled k m xs) (call k x) ≡ filled k m (xs ++ (x ∷ []))
  joined e =
      let none = all_map (λ y. element_before k y x ≡ true) (λ y. element_before k x y ≡ false) (λ y e. (before_other k x y e).1) xs a in
      accepted_after (filled k m xs) (call k x) e ∙ inserted k xs x ∙ ap (filled k m) (insert_last (element_before k) x xs none)
    where
      inserted : (k : Section) (xs : List (Elem k)) (x : Elem k) → accepted (filled k m xs) (call k x) ≡ filled k m (insert_by (element_before k) x xs)
      inserted (Section.Bundles v) xs x = refl
      inserted (Section.Connections v) xs x = refl

-- and is accepted
pub taken : (k : Section) (m : Model) (xs : List (Elem k)) (x : Elem k) → All (λ y. element_before k y x ≡ true) xs
    → All (λ r. r < regions) m.regions → LegalElem k m.regions x → length xs < most_records k → number (filled k m xs) (call k x) ≡ not_refused
taken (Section.Bundles v) m xs b a s (h, plain) n =
    let few = and_yes (le-leb (length b.packages) most_provided h.packages.few) (le-leb (length b.services) most_provided h.services.few) in
    let rise = and_yes h.packages.ascend h.services.ascend in
    let free = ap not (absent (Section.Bundles v) m xs b a) in
    none_no (questions (filled (Section.Bundles v) m xs) (Call.install b))
    (below m.regions s b.region h.region, (h.region, (few, (rise, (free, (refl, (lt-ltb (length xs) most_bundles n, tt)))))))
taken (Section.Connections v) m xs c a s (h, plain) n =
    let ends = and_yes (below m.regions s c.source h.source) (below m.regions s c.target h.target) in
    let held = and_yes h.source h.target in
    let free = ap not (absent (Section.Connections v) m xs c a) in
    let lists = filter_passes c.filter h.filter in
    let ranges = entries_pass c.filter.packages h.filter.packages in
    none_no (questions (filled (Section.Connections v) m xs) (Call.connect c))
    (ends, (held, (ap not h.differ, (free, (lists.0, (lists.1, (ranges, (lt-ltb (length xs) most_connections n, tt))))))))
