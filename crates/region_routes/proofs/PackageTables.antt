-- Tables of packages: their exporters, and the spans of what passes, at equal places beside them, and what they say of the model.
use Rattle.std.specs.Prelude.{Option, Some, None}
use mathlib.Core.Path.{◌≡◌, refl, sym, ap, ap₂, ◌∙◌}
use mathlib.Core.Bool.{Bool, true, false, ◌&&◌, ◌||◌, and-false, or-true, or_assoc}
use mathlib.Core.List.{List, [], ◌∷◌, ◌++◌, map, map-map}
use Prim.Native.Nat.{ℕ, ◌+◌, ◌≤◌, ◌<◌}
use native.Mathlib.Omega.{arith}
use lib.Dec.{eqb}
use lib.ListN.{length, take, length-append, length-map}
use borrow.Author.Tests.{eqb-true, eqb-false, eq-eqb, ne_eqb, ltb-true}
use Rattle.region_graph.specs.Size.{regions, most_provided, most_listed}
use Rattle.region_graph.specs.Lists.{pick, exists, All, concat_map}
use Rattle.region_graph.specs.Model.{Model, Package, PackageEntry, Bundle, Part, Connection, PackageFits, LegalEntry, SortedPart, entry_before, bundle_before}
use Rattle.region_graph.specs.Model.{Legal, LegalBundle, LegalConnection}
use Rattle.region_graph.specs.Calls.{at_location, of_listed}
use Rattle.region_graph.specs.Items.{is_package, entry_passes, provides, passes, crosses}
use Rattle.region_graph.specs.Record.{bundle_in}
use Rattle.region_graph.specs.Places.{BundleStored}
use Rattle.region_graph.specs.Promise.{provider_place, predecessor_sets}
use Rattle.region_graph.specs.declared.bundles.StoredBundle.{StoredBundle}
use Rattle.region_graph.proofs.Lists.{exists_append, all_map, member_all, eqb_sym}
use Rattle.region_graph.proofs.Ascending.{Rising, ascends_rising, strict_bundles}
use Rattle.region_graph.proofs.Arrays.{filled_taken}
use Rattle.region_graph.proofs.Storing.{packages_stored, versions_column}
use Rattle.region_routes.specs.Hooks.{item}
use Rattle.region_routes.specs.Tables.{width, everything_number, packed, number_in, ends, source_in, target_in, version_span, span_has, part_spans}
use Rattle.region_routes.specs.Tables.{passed, listed_numbers, offer, passage, owner, passage_spans, offers, passages, owners, spans, step_in}
use Rattle.region_routes.specs.Tables.{step_between, step_or_between, predecessors_by, place_beside, ExportTables}
use Rattle.region_routes.proofs.TableLaws.{packed_number, packed_place, packed_of, packed_source, packed_target, source_inside, target_inside}

-- owners

-- the owners that a stored bundle has, by its column of versions
pub owner_column : (b : StoredBundle) → BundleStored b
    → map (λ v. packed b.location v) (take b.packages.count b.packages.versions) ≡ owner (bundle_in b)
owner_column b s =
    ap (map (λ v. packed b.location v)) (filled_taken (versions_column b.packages (packages_stored b s)))
    ∙ map-map (λ v. packed b.location v) (λ p. p.version) (bundle_in b).packages

-- a location and a version as one number
packed_same : (l v k w : ℕ) → v < width → w < width → eqb (packed k w) (packed l v) ≡ (eqb k l && eqb v w)
packed_same l v k w h j = go (eqb k l) refl (eqb v w) refl
  where
    go : (a : Bool) → eqb k l ≡ a → (b : Bool) → eqb v w ≡ b → eqb (packed k w) (packed l v) ≡ (a && b)
    go true e true f = eq-eqb (packed k w) (packed l v) (omega (arith, eqb-true k l e, eqb-true v w f))
    go true e false f = ne_eqb (packed k w) (packed l v) (λ z. eqb-false v w f (omega (arith, eqb-true k l e)))
    go false e b f = ne_eqb (packed k w) (packed l v) (λ z. eqb-false k l e (omega arith))

module _ (l v n : ℕ) (low : v < width) where
  -- the entries of one bundle, with its location and their versions beside them
  module _ (b : Bundle) (i : b.region < regions) (es ls : List ℕ) where
    abbrev test : Bool → Option ℕ
    test t = pick t (Some b.region) (place_beside es ls (packed l v) n)

    beside_packages : (ps : List Package) → All PackageFits ps
        → place_beside (map (λ x. packed x b.region) (map (λ p. p.number) ps) ++ es) (map (λ p. packed b.location p.version) ps ++ ls)
        (packed l v) n ≡ test (eqb b.location l && exists (is_package n v) ps)
    beside_packages [] a = rw (and-false (eqb b.location l))
    beside_packages (p ∷ ps) a =
        rw (
          packed_number p.number b.region (omega arith),
          packed_place p.number b.region (omega arith),
          packed_same l v b.location p.version low a.0.version,
          beside_packages ps a.1,
          eqb_sym p.number n,
        )
        (first (eqb b.location l) (eqb n p.number) (eqb v p.version) (exists (is_package n v) ps))
      where
        first : (t u w x : Bool) → pick (u && (t && w)) (Some b.region) (test (t && x)) ≡ test (t && ((u && w) || x))
        first true true true x = refl
        first true true false x = refl
        first true false w x = refl
        first false true w x = refl
        first false false w x = refl

    beside_bundle : All PackageFits b.packages
        → place_beside (offer 1 b ++ es) (owner b ++ ls) (packed l v) n
        ≡ pick (at_location l b && provides (item 1 n v) b) (Some b.region) (place_beside es ls (packed l v) n)
    beside_bundle a = beside_packages b.packages a

  module _ {rs : List ℕ} (bound : (b : Bundle) → LegalBundle rs b → b.region < regions) where
    -- no bundle is at the location
    none_beside : (bs : List Bundle) → All (LegalBundle rs) bs → All (λ b. at_location l b ≡ false) bs
        → place_beside (offers 1 bs) (owners bs) (packed l v) n ≡ None
    none_beside [] a f = refl
    none_beside (b ∷ bs) a f =
        beside_bundle b (bound b a.0) (offers 1 bs) (owners bs) a.0.packages.each ∙ rw f.0 (none_beside bs a.1 f.1)

    beside_each : (bs : List Bundle) → All (LegalBundle rs) bs → Rising bundle_before bs
        → place_beside (offers 1 bs) (owners bs) (packed l v) n ≡ provider_place bs l (item 1 n v)
    beside_each [] a r = refl
    beside_each (b ∷ bs) a r =
        beside_bundle b (bound b a.0) (offers 1 bs) (owners bs) a.0.packages.each
        ∙ by (at_location l b) refl (provides (item 1 n v) b) (beside_each bs a.1 r.1)
      where
        later : at_location l b ≡ true → All (λ c. at_location l c ≡ false) bs
        later e =
            all_map (λ c. bundle_before b c ≡ true) (λ c. at_location l c ≡ false)
            (λ c k. ne_eqb c.location l (λ z. omega (arith, ltb-true b.location c.location k, eqb-true b.location l e))) bs r.0

        by : (t : Bool) → at_location l b ≡ t → (u : Bool)
            → place_beside (offers 1 bs) (owners bs) (packed l v) n ≡ provider_place bs l (item 1 n v)
            → pick (t && u) (Some b.region) (place_beside (offers 1 bs) (owners bs) (packed l v) n)
            ≡ pick t (pick u (Some b.region) None) (provider_place bs l (item 1 n v))
        by true e true f = refl
        by true e false f = none_beside bs a.1 (later e)
        by false e u f = f

-- the place is the region of the bundle at the location, where that has the package: a location stands once
pub beside_table : {m : Model} {exported owned passing spanned : List ℕ} → ExportTables m exported owned passing spanned → (l v n : ℕ) → v < width
    → place_beside exported owned (packed l v) n ≡ provider_place m.bundles l (item 1 n v)
beside_table {m} t l v n low =
    let h = t.tables.legal in
    rw (t.tables.offered_is, t.owned_is)
    (beside_each l v n low (λ b k. member_all (λ x. x < regions) b.region m.regions h.regions_legal.each k.region) m.bundles
    h.bundles_legal.each (ascends_rising bundle_before strict_bundles m.bundles h.bundles_legal.ascend))

pub owners_few : {m : Model} → Legal m → All (λ b. length (owner b) ≤ most_provided) m.bundles
owners_few {m} h =
    all_map (LegalBundle m.regions) (λ b. length (owner b) ≤ most_provided) (λ b l. rw length-map l.packages.few) m.bundles
    h.bundles_legal.each

-- spans

module _ (n v r s : ℕ) where
  -- a step by the first entries, or by the later ones
  between_append : (es ss fs ts : List ℕ) → length es ≡ length ss
      → step_between (es ++ fs) (ss ++ ts) n v r s ≡ (step_between es ss n v r s || step_between fs ts n v r s)
  between_append [] [] fs ts e = refl
  between_append [] (x ∷ ss) fs ts e = absurd (omega arith)
  between_append (y ∷ es) [] fs ts e = absurd (omega arith)
  between_append (y ∷ es) (x ∷ ss) fs ts e =
      let first = (eqb (source_in y) r && eqb (target_in y) s) && (eqb (number_in y) n && span_has v x) in
      ap (λ (t : Bool). first || t) (between_append es ss fs ts (omega arith))
      ∙ sym (or_assoc first (step_between es ss n v r s) (step_between fs ts n v r s))

  -- what one connection's entries say
  module _ {a b : ℕ} (i : a < regions) (j : b < regions) where
    abbrev joined : Bool
    joined = eqb a r && eqb b s

    abbrev table : Part PackageEntry → List ℕ
    table p = map (λ x. packed x (ends a b)) (passed (listed_numbers p))

    entries_say : (es : List PackageEntry) → All LegalEntry es
        → (step_in (table (Part.listed es)) everything_number r s || step_between (table (Part.listed es)) (map version_span es) n v r s)
        ≡ (joined && exists (entry_passes n v) es)
    entries_say [] l = sym (and-false joined)
    entries_say (e ∷ es) l =
        let f = l.0.fits in
        rw (
          packed_source i j e.number,
          packed_target i j e.number,
          packed_of i j e.number,
          packed_number e.lowest e.highest f.highest,
          packed_place e.lowest e.highest f.highest,
          ne_eqb e.number everything_number (λ z. omega (arith, f.number)),
          eqb_sym e.number n,
        )
        (more joined (entry_passes n v e) (step_in (table (Part.listed es)) everything_number r s)
        (step_between (table (Part.listed es)) (map version_span es) n v r s)
        (exists (entry_passes n v) es) (entries_say es l.1))
      where
        more : (t u x y z : Bool) → (x || y) ≡ (t && z) → (((t && false) || x) || ((t && u) || y)) ≡ (t && (u || z))
        more true true x y z e = or-true x
        more true false x y z e = e
        more false u x y z e = e

    part_says : (p : Part PackageEntry) → SortedPart entry_before LegalEntry p
        → (step_in (table p) everything_number r s || step_between (table p) (part_spans p) n v r s)
        ≡ (joined && of_listed (exists (entry_passes n v)) p)
    part_says (Part.listed es) l = entries_say es l.each
    part_says Part.everything l =
        rw (packed_source i j everything_number, packed_target i j everything_number, packed_of i j everything_number)
        (only joined (eqb everything_number n && span_has v 0))
      where
        only : (t u : Bool) → (((t && true) || false) || ((t && u) || false)) ≡ (t && true)
        only true u = refl
        only false u = refl

spans_long : (c : Connection) → length (passage 1 c) ≡ length (passage_spans c)
spans_long c = length-map (passed (listed_numbers c.filter.packages)) (λ x. packed x (ends c.source c.target)) ∙ go c.filter.packages
  where
    go : (p : Part PackageEntry) → length (passed (listed_numbers p)) ≡ length (part_spans p)
    go (Part.listed es) = length-map es (λ e. e.number) ∙ sym (length-map es version_span)
    go Part.everything = refl

module _ (m : Model) (h : Legal m) (n v : ℕ) where
  -- an entry for all, or one for the package, goes from and to where a connection that passes the package goes
  crosses_spans : (r s : ℕ)
      → step_or_between (step_in (passages 1 m.connections) everything_number) (passages 1 m.connections) (spans m.connections) n v r s
      ≡ crosses m (item 1 n v) r s
  crosses_spans r s = go m.connections h.connections_legal.each
    where
      apart : (a b c d : Bool) → ((a || b) || (c || d)) ≡ ((a || c) || (b || d))
      apart true b c d = refl
      apart false true true d = refl
      apart false true false d = refl
      apart false false c d = refl

      go : (cs : List Connection) → All (LegalConnection m.regions) cs
          → (step_in (passages 1 cs) everything_number r s || step_between (passages 1 cs) (spans cs) n v r s)
          ≡ exists (λ c. (eqb c.source r && eqb c.target s) && passes (item 1 n v) c.filter) cs
      go [] l = refl
      go (c ∷ cs) l =
          let all : List ℕ → Bool = λ es. step_in es everything_number r s in
          ap₂ ◌||◌
          (exists_append (λ e. (eqb (source_in e) r && eqb (target_in e) s) && eqb (number_in e) everything_number) (passage 1 c) (passages 1 cs))
          (between_append n v r s (passage 1 c) (passage_spans c) (passages 1 cs) (spans cs) (spans_long c))
          ∙ apart (all (passage 1 c)) (all (passages 1 cs)) (step_between (passage 1 c) (passage_spans c) n v r s)
          (step_between (passages 1 cs) (spans cs) n v r s)
          ∙ ap₂ ◌||◌
          (part_says n v r s (source_inside m h {c = c} l.0) (target_inside m h {c = c} l.0) c.filter.packages l.0.filter.packages)
          (go cs l.1)

  stepped_spans : predecessors_by
      (step_or_between (step_in (passages 1 m.connections) everything_number) (passages 1 m.connections) (spans m.connections) n v)
      ≡ predecessor_sets m (item 1 n v)
  unfolding predecessors_by predecessor_sets
  stepped_spans = ap predecessors_by (λ j r s. crosses_spans r s j)

pub between_table : {m : Model} {exported owned passing spanned : List ℕ} → ExportTables m exported owned passing spanned → (n v : ℕ)
    → predecessors_by (step_or_between (step_in passing everything_number) passing spanned n v) ≡ predecessor_sets m (item 1 n v)
between_table {m} t n v = rw (t.tables.passing_is, t.spanned_is) (stepped_spans m t.tables.legal n v)

pub spans_few : {m : Model} → Legal m → All (λ c. length (passage_spans c) ≤ most_listed) m.connections
spans_few {m} h =
    all_map (LegalConnection m.regions) (λ c. length (passage_spans c) ≤ most_listed) (λ c l. few c.filter.packages l.filter.packages)
    m.connections h.connections_legal.each
  where
    few : (p : Part PackageEntry) → SortedPart entry_before LegalEntry p → length (part_spans p) ≤ most_listed
    few (Part.listed es) l = rw length-map l.few
    few Part.everything l = omega arith

-- what stands beside a table is as long as it
module _ {A : Type 0} (f g : A → List ℕ) (e : (x : A) → length (f x) ≡ length (g x)) where
  gathered_long : (xs : List A) → length (concat_map f xs) ≡ length (concat_map g xs)
  gathered_long [] = refl
  gathered_long (x ∷ xs) =
      length-append (f x) (concat_map f xs) ∙ ap₂ ◌+◌ (e x) (gathered_long xs) ∙ sym (length-append (g x) (concat_map g xs))

pub owned_long : (bs : List Bundle) {owned exported : List ℕ} → owned ≡ owners bs → exported ≡ offers 1 bs → length owned ≡ length exported
owned_long bs e f = ap length e ∙ gathered_long owner (offer 1) each bs ∙ sym (ap length f)
  where
    each : (b : Bundle) → length (owner b) ≡ length (offer 1 b)
    each b =
        length-map b.packages (λ p. packed b.location p.version)
        ∙ sym (length-map (map (λ p. p.number) b.packages) (λ n. packed n b.region) ∙ length-map b.packages (λ p. p.number))

pub spanned_long : (cs : List Connection) {spanned passing : List ℕ} → spanned ≡ spans cs → passing ≡ passages 1 cs → length spanned ≡ length passing
spanned_long cs e f = ap length e ∙ gathered_long passage_spans (passage 1) (λ c. sym (spans_long c)) cs ∙ sym (ap length f)
