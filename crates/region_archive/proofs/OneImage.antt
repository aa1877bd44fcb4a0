-- The images of a legal model: each tells its version and the model, passes the questions about its front, and has no more bytes than document 02 says.
use mathlib.Core.Path.{◌≡◌, refl, sym, ap, ◌∙◌, subst}
use mathlib.Core.Bool.{Bool, true, false}
use mathlib.Core.List.{List, [], ◌++◌, append-nil}
use Prim.Native.Nat.{ℕ, ◌+◌, ◌-◌, ◌*◌, ◌≤◌}
use native.Mathlib.Nat.{mul-le-mul_right}
use native.Mathlib.Omega.{arith}
use lib.Dec.{leb, ltb}
use lib.ListN.{length, get_or, drop, length-append}
use borrow.Author.Tests.{le-leb, lt-leb, eq-eqb}
use Rattle.region_graph.specs.Size.{most_bundles, most_connections, most_provided, most_listed}
use Rattle.region_graph.specs.Refusals.{not_refused}
use Rattle.region_graph.specs.Lists.{pick}
use Rattle.region_graph.specs.Model.{Model, Package, PackageEntry, Bundle, Part, Connection, entry_before, bundle_before, connection_before}
use Rattle.region_graph.specs.Model.{Word, LegalEntry, Sorted, SortedPart, LegalBundle, LegalConnection, Legal}
use Rattle.region_graph.specs.Calls.{first_no}
use Rattle.region_graph.proofs.Lists.{false_true, concat_length, concat_most}
use Rattle.region_archive.specs.Bounds.{list_bound, part_bound, bundle_bound, connection_bound}
use Rattle.big_endian.specs.Bytes.{big, counted, sized}
use Rattle.big_endian.proofs.Digits.{big_length}
use Rattle.big_endian.proofs.Delimits.{Delimits, reader_same, word_bytes}
use Rattle.region_archive.specs.Image.{part_bytes, bundle_fields, connection_fields, latest, export_in, entry_in, body_in, image_in, image}
use Rattle.region_archive.specs.Image.{older_version, older_image}
use Rattle.region_archive.specs.File.{oldest, length_field, front_questions}
use Rattle.region_archive.specs.Sections.{LegalIn}
use Rattle.region_archive.proofs.ModelReaders.{read_body}
use Rattle.region_archive.proofs.Versions.{older_between, version_read, early_few}

-- bytes tell a legal model
pub body_same : (v : ℕ) → Delimits (LegalIn v) (body_in v) ◌≡◌
body_same v = reader_same (LegalIn v) (body_in v) (read_body v)

-- what stands after the length of an image, and before it
pub image_body : (v : ℕ) (m : Model) → drop 5 (image_in v m) ≡ body_in v m ++ []
unfolding image_in
image_body v m = sym (append-nil (body_in v m))

image_first : (v : ℕ) (m : Model) → get_or (image_in v m) 0 0 ≡ v
unfolding image_in
image_first v m = refl

pub first_version : (v : ℕ) (m : Model) {s : List ℕ} → image_in v m ≡ s → v ≡ get_or s 0 0
first_version v m e = sym (image_first v m) ∙ ap (λ (s : List ℕ). get_or s 0 0) e

-- legal models with one image are one, and the image is of one version
pub one_image : (v w : ℕ) (m n : Model) → LegalIn v m → LegalIn w n → image_in v m ≡ image_in w n → (v ≡ w) × (m ≡ n)
one_image v w m n h g e =
    let same : v ≡ w = first_version v m e ∙ image_first w n in
    let d : image_in v m ≡ image_in v n = e ∙ ap (λ (u : ℕ). image_in u n) (sym same) in
    let k = subst (λ (u : ℕ). LegalIn u n) (sym same) g in
    (same, (body_same v m n [] [] h k (sym (image_body v m) ∙ ap (drop 5) d ∙ image_body v n)).0)

-- a list, and a part, of elements that have one width is within its bound
module _ {A : Type 0} (bytes : A → List ℕ) (width : ℕ) (each : (x : A) → length (bytes x) ≡ width) where
  list_most : (most : ℕ) (xs : List A) → length xs ≤ most → length (counted bytes xs) ≤ list_bound width most
  list_most most xs h = omega (arith, concat_length bytes width each xs, mul-le-mul_right width h)

  part_most : (before : A → A → Bool) (Good : A → Type 0) (p : Part A) → SortedPart before Good p → length (part_bytes bytes p) ≤ part_bound width
  part_most before Good (Part.listed xs) h = list_most most_listed xs h.few
  part_most before Good Part.everything h = omega arith

-- the bytes of a package, and of an entry, in a version
abbrev export_width : ℕ → ℕ
export_width v = pick (leb 3 v) 6 4

abbrev entry_width : ℕ → ℕ
entry_width v = pick (leb 3 v) 8 4

export_length : (v : ℕ) (p : Package) → length (export_in v p) ≡ export_width v
export_length v p = go (leb 3 v)
  where
    go : (b : Bool) → length (big 4 p.number ++ pick b (big 2 p.version) []) ≡ pick b 6 4
    go true = refl
    go false = refl

entry_length : (v : ℕ) (e : PackageEntry) → length (entry_in v e) ≡ entry_width v
entry_length v e = go (leb 3 v)
  where
    go : (b : Bool) → length (big 4 e.number ++ pick b (big 2 e.lowest ++ big 2 e.highest) []) ≡ pick b 8 4
    go true = refl
    go false = refl

module _ (v : ℕ) where
  -- a legal element's record takes no more than its bound
  bundle_most : (rs : List ℕ) (b : Bundle) → LegalBundle rs b
      → length (sized 2 (bundle_fields (export_in v) (entry_in v)) b) ≤ bundle_bound (export_width v)
  bundle_most rs b h =
      let ps = counted (export_in v) b.packages in
      let ss = counted (big 4) b.services in
      omega (
        arith,
        length-append ps ss,
        list_most (export_in v) (export_width v) (export_length v) most_provided b.packages h.packages.few,
        list_most (big 4) 4 (big_length 4) most_provided b.services h.services.few,
      )

  connection_most : (rs : List ℕ) (c : Connection) → LegalConnection rs c
      → length (sized 2 (connection_fields (export_in v) (entry_in v)) c) ≤ connection_bound (entry_width v)
  connection_most rs c h =
      let bs = counted (big 4) c.filter.bundles in
      let ps = part_bytes (entry_in v) c.filter.packages in
      let ss = part_bytes (big 4) c.filter.services in
      omega (
        arith,
        length-append bs (ps ++ ss),
        length-append ps ss,
        list_most (big 4) 4 (big_length 4) most_listed c.filter.bundles h.filter.bundles.few,
        part_most (entry_in v) (entry_width v) (entry_length v) entry_before LegalEntry c.filter.packages h.filter.packages,
        part_most (big 4) 4 (big_length 4) ltb Word c.filter.services h.filter.services,
      )

  -- nor does a section than its records
  section_most : {A : Type 0} (bytes : A → List ℕ) (bound : ℕ) (Good : A → Type 0) → ((x : A) → Good x → length (bytes x) ≤ bound)
      → (before : A → A → Bool) (most : ℕ) (xs : List A) → Sorted before Good most xs → length (counted bytes xs) ≤ 1 + most * bound
  section_most bytes bound Good each before most xs h =
      omega (arith, concat_most Good bytes bound each xs h.each, mul-le-mul_right bound h.few)

  -- besides its regions an image has at most so many bytes
  image_within : (m : Model) → Legal m
      → length (image_in v m) ≤ length m.regions + 8 + most_bundles * bundle_bound (export_width v) + most_connections * connection_bound (entry_width v)
  unfolding image_in
  image_within m h =
      let rs = counted (big 1) m.regions in
      let bs = counted (sized 2 (bundle_fields (export_in v) (entry_in v))) m.bundles in
      let cs = counted (sized 2 (connection_fields (export_in v) (entry_in v))) m.connections in
      omega (
        arith,
        concat_length (big 1) 1 (big_length 1) m.regions,
        length-append rs (bs ++ cs),
        length-append bs cs,
        section_most (sized 2 (bundle_fields (export_in v) (entry_in v))) (bundle_bound (export_width v)) (LegalBundle m.regions)
            (bundle_most m.regions) bundle_before most_bundles m.bundles h.bundles_legal,
        section_most (sized 2 (connection_fields (export_in v) (entry_in v))) (connection_bound (entry_width v)) (LegalConnection m.regions)
            (connection_most m.regions) connection_before most_connections m.connections h.connections_legal,
      )

  -- no image is longer than document 02 says
  any_bound : (m : Model) → Legal m → length (image_in v m) ≤ 18392
  any_bound m h = go (leb 3 v) (image_within m h)
    where
      go : (b : Bool)
          → length (image_in v m) ≤ length m.regions + 8 + most_bundles * bundle_bound (pick b 6 4) + most_connections * connection_bound (pick b 8 4)
          → length (image_in v m) ≤ 18392
      go true k = omega (arith, h.regions_legal.few)
      go false k = omega (arith, h.regions_legal.few)

pub image_bound : (m : Model) → Legal m → length (image m) ≤ 18392
image_bound m h = any_bound latest m h

-- nor one of an older version than documents 01 and 02 say of it
older_within : (m : Model) → Legal m → length (older_image m) ≤ length m.regions + 14232
older_within m h =
    let v = older_version m.regions in
    go (leb 3 v) (lt-leb 3 v (older_between m.regions).1) (image_within v m h)
  where
    go : (b : Bool) → b ≡ false
        → length (older_image m) ≤ length m.regions + 8 + most_bundles * bundle_bound (pick b 6 4) + most_connections * connection_bound (pick b 8 4)
        → length (older_image m) ≤ length m.regions + 14232
    go true e k = false_true (sym e)
    go false e k = omega arith

pub older_bound : (m : Model) → Legal m → length (older_image m) ≤ 14296
older_bound m h = omega (arith, older_within m h, h.regions_legal.few)

pub early_bound : (m : Model) → Legal m → older_version m.regions ≡ 1 → length (older_image m) ≤ 14248
early_bound m h e = omega (arith, older_within m h, early_few m.regions h.regions_legal.ascend e)

-- an image passes the questions about its front that admit its version, and those of a read
pub front_passed : (low high v : ℕ) (m : Model) → Legal m → low ≤ v → v ≤ high → first_no (front_questions low high (image_in v m)) ≡ not_refused
unfolding image_in
front_passed low high v m l since until =
    let s = image_in v m in
    let size : length_field s ≡ length s - 5 = word_bytes (length (body_in v m)) (omega (arith, any_bound v m l)) ∙ omega arith in
    rw (le-leb 5 (length s) (omega arith), le-leb low v since, le-leb v high until, eq-eqb (length_field s) (length s - 5) size)

pub image_front : (v : ℕ) (m : Model) → LegalIn v m → first_no (front_questions oldest latest (image_in v m)) ≡ not_refused
image_front v m (l, h) = let r = version_read v m h in front_passed oldest latest v m l r.0 r.1
