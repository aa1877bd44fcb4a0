-- The legal models are those that calls from nothing reach, and the valid records those that store them.
use mathlib.Core.Path.{◌≡◌, refl, sym, ap, ◌∙◌, subst}
use mathlib.Core.Logic.{◌↔◌}
use mathlib.Core.Bool.{Bool, true}
use mathlib.Core.List.{List, [], ◌∷◌, ◌++◌, map, append-nil, append_assoc}
use Prim.Native.Nat.{ℕ, ◌<◌}
use native.Mathlib.Omega.{arith}
use lib.Dec.{ltb}
use lib.ListN.{length, length-append}
use Rattle.region_graph.specs.Size.{regions}
use Rattle.region_graph.specs.Lists.{All}
use Rattle.region_graph.specs.Model.{Model, Part, Word, EntryFits, LegalEntry, Sorted, SortedPart, Legal, entry_before, nothing}
use Rattle.region_graph.specs.Calls.{Call, after, run}
use Rattle.region_graph.specs.Record.{Valid, store, meaning}
use Rattle.region_graph.specs.declared.Graph.{Graph}
use Rattle.region_graph.proofs.Lists.{all_map, all_join, all_rest}
use Rattle.region_graph.proofs.Ascending.{Strict, Rising, rising_ascends, ascends_rising, strict_numbers, strict_bundles, strict_connections}
use Rattle.region_graph.proofs.Legal.{legal_nothing, legal_run, Words, PartAll}
use Rattle.region_graph.proofs.Storing.{stores_valid}
use Rattle.region_graph.specs.Decoded.{GoodRegions}
use Rattle.region_archive.specs.Image.{latest}
use Rattle.region_archive.specs.RecordFields.{Elem, most_records, element_before, LegalElem, LegalElems, elements}
use Rattle.region_archive.specs.declared.record_fields.Section.{Section}
use Rattle.region_archive.proofs.Versions.{legal_elements}
use Rattle.region_archive.proofs.Taking.{filled, call, only, region_taken, region_joined, taken, joined}

-- calls one after the other
run_append : (m : Model) (cs ds : List Call) → run m (cs ++ ds) ≡ run (run m cs) ds
run_append m [] ds = refl
run_append m (c ∷ cs) ds = run_append (after m c) cs ds

-- a property of what a list is mapped to
all_mapped : {A B : Type 0} (f : A → B) (P : B → Type 0) (xs : List A) → All (λ x. P (f x)) xs → All P (map f xs)
all_mapped f P [] h = tt
all_mapped f P (x ∷ xs) h = (h.0, all_mapped f P xs h.1)

module _ {A : Type 0} {before : A → A → Bool} (strict : Strict before) (good : A → Type 0) (most : ℕ) where
  -- what a list in order says of an element: those before it are in order, and come before it
  record Last (xs : List A) (x : A) : Type 0 where
    front : Sorted before good most xs
    is_good : good x
    room : length xs < most
    rises : All (λ y. before y x ≡ true) xs

  all_front : (P : A → Type 0) (xs ys : List A) → All P (xs ++ ys) → All P xs
  all_front P [] ys h = tt
  all_front P (x ∷ xs) ys h = (h.0, all_front P xs ys h.1)

  rising_split : (xs : List A) (y : A) (ys : List A) → Rising before (xs ++ (y ∷ ys)) → Rising before xs × All (λ x. before x y ≡ true) xs
  rising_split [] y ys r = (tt, tt)
  rising_split (x ∷ xs) y ys r =
      let s = rising_split xs y ys r.1 in
      let P : A → Type 0 = λ z. before x z ≡ true in
      ((all_front P xs (y ∷ ys) r.0, s.0), ((all_rest P xs (y ∷ ys) r.0).0, s.1))

  last_at : (xs : List A) (y : A) (ys : List A) → Sorted before good most (xs ++ (y ∷ ys)) → Last xs y
  last_at xs y ys r =
      let s = rising_split xs y ys (ascends_rising before strict (xs ++ (y ∷ ys)) r.ascend) in
      let n : length xs < most = omega (arith, r.few, length-append xs (y ∷ ys)) in
      record {
        front = record { few = omega arith; each = all_front good xs (y ∷ ys) r.each; ascend = rising_ascends before xs s.0 };
        is_good = (all_rest good xs (y ∷ ys) r.each).0;
        room = n;
        rises = s.1;
      }

  -- where each element's call puts it at the end, the calls of a list in order give the list
  module _ (with : List A → Model) (call : A → Call)
      (step : (xs : List A) (x : A) → Last xs x → after (with xs) (call x) ≡ with (xs ++ (x ∷ []))) where
    fills : (xs ys : List A) → Sorted before good most (xs ++ ys) → run (with xs) (map call ys) ≡ with (xs ++ ys)
    fills xs [] r = ap with (sym (append-nil xs))
    fills xs (y ∷ ys) r =
        let e : (xs ++ (y ∷ [])) ++ ys ≡ xs ++ (y ∷ ys) = append_assoc xs (y ∷ []) ys in
        ap (λ (m : Model). run m (map call ys)) (step xs y (last_at xs y ys r))
        ∙ fills (xs ++ (y ∷ [])) ys (subst (Sorted before good most) (sym e) r) ∙ ap with e

-- the regions, added in order
regions_fill : (rs : List ℕ) → GoodRegions rs → run nothing (map Call.add_region rs) ≡ only rs
regions_fill rs r =
    fills strict_numbers (λ n. n < regions) regions only Call.add_region
    (λ xs x l. region_joined xs x l.rises (region_taken xs x l.rises l.is_good)) [] rs r

strict_section : (k : Section) → Strict (element_before k)
strict_section (Section.Bundles v) = strict_bundles
strict_section (Section.Connections v) = strict_connections

-- the elements of a section, handed to its call in order
section_fill : (k : Section) (m : Model) (xs : List (Elem k)) → All (λ r. r < regions) m.regions → LegalElems k m.regions xs
    → run (filled k m []) (map (call k) xs) ≡ filled k m xs
section_fill k m xs small r =
    fills (strict_section k) (LegalElem k m.regions) (most_records k) (filled k m) (call k)
    (λ xs x l. joined k m xs x l.rises (taken k m xs x l.rises small l.is_good l.room)) [] xs r

-- what a legal part lists fits
part_words : {A : Type 0} (before : A → A → Bool) (Good Fits : A → Type 0) → ((x : A) → Good x → Fits x) → (p : Part A)
    → SortedPart before Good p → PartAll Fits p
part_words before Good Fits f (Part.listed xs) h = all_map Good Fits f xs h.each
part_words before Good Fits f Part.everything h = tt

-- the numbers of a legal element have 32 bits, and its versions 16
words : (k : Section) (rs : List ℕ) (x : Elem k) → LegalElem k rs x → Words (call k x)
words (Section.Bundles v) rs b (h, plain) = (h.location, h.packages.each, h.services.each)
words (Section.Connections v) rs c (h, plain) =
    let f = h.filter in (
      f.bundles.each,
      part_words entry_before LegalEntry EntryFits (λ e l. l.fits) c.filter.packages f.packages,
      part_words ltb Word Word (λ n l. l) c.filter.services f.services,
    )

-- some calls from nothing, with numbers of 32 bits and versions of 16, give the value
pub record Reached {A : Type 0} (of : Model → A) (a : A) : Type 0 where
  pub calls : List Call
  pub words : All Words calls
  pub gives : of (run nothing calls) ≡ a

-- the calls of a legal model: its regions, its bundles and its connections, each in order
legal_reached : (m : Model) → Legal m → Reached (λ n. n) m
legal_reached m l =
    record {
      calls = adds ++ (fills_of bundles ++ fills_of connections);
      words =
          all_join Words adds (fills_of bundles ++ fills_of connections) (add_words m.regions)
          (all_join Words (fills_of bundles) (fills_of connections) (section_words bundles bundles_in) (section_words connections connections_in));
      gives =
          run_append nothing adds (fills_of bundles ++ fills_of connections)
          ∙ ap (λ (n : Model). run n (fills_of bundles ++ fills_of connections)) (regions_fill m.regions l.regions_legal)
          ∙ run_append (only m.regions) (fills_of bundles) (fills_of connections)
          ∙ ap (λ (n : Model). run n (fills_of connections)) (fill bundles bundles_in) ∙ fill connections connections_in;
    }
  where
    -- the sections of the latest version, in which every legal element is legal
    bundles : Section
    bundles = Section.Bundles latest

    connections : Section
    connections = Section.Connections latest

    In : Section → Type 0
    In k = LegalElems k m.regions (elements k m)

    bundles_in : In bundles
    bundles_in = legal_elements bundles m (l, refl)

    connections_in : In connections
    connections_in = legal_elements connections m (l, refl)

    adds : List Call
    adds = map Call.add_region m.regions

    fills_of : Section → List Call
    fills_of k = map (call k) (elements k m)

    fill : (k : Section) → In k → run (filled k m []) (fills_of k) ≡ filled k m (elements k m)
    fill k h = section_fill k m (elements k m) l.regions_legal.each h

    add_words : (rs : List ℕ) → All Words (map Call.add_region rs)
    add_words [] = tt
    add_words (r ∷ rs) = (tt, add_words rs)

    section_words : (k : Section) → In k → All Words (fills_of k)
    section_words k h =
        all_mapped (call k) Words (elements k m)
        (all_map (LegalElem k m.regions) (λ x. Words (call k x)) (words k m.regions) (elements k m) h.each)

-- a model is legal exactly when some calls from nothing give it
pub legal_reachable : (m : Model) → Legal m ↔ Reached (λ n. n) m
legal_reachable m = (legal_reached m, λ r. subst Legal r.gives (legal_run nothing r.calls legal_nothing r.words))

-- a record is valid exactly when it stores what some calls from nothing give
pub valid_reachable : (g : Graph) → Valid g ↔ Reached store g
valid_reachable g = (yes_reached, λ r. stores_valid (run nothing r.calls) (legal_run nothing r.calls legal_nothing r.words) (sym r.gives))
  where
    yes_reached : Valid g → Reached store g
    yes_reached v =
        let r = legal_reached (meaning g) v.good in
        record { calls = r.calls; words = r.words; gives = ap store r.gives ∙ sym v.stored }
