-- The pieces of an image of some version, up to its body, can be read back from their bytes.
use mathlib.Core.Path.{◌≡◌, refl, sym}
use mathlib.Core.Bool.{Bool, true, false, ◌&&◌, ◌||◌}
use mathlib.Core.List.{List, [], ◌∷◌, ◌++◌}
use Prim.Native.Nat.{ℕ, ◌^◌, ◌<◌}
use native.Mathlib.Omega.{arith}
use lib.Dec.{eqb, leb, ltb}
use lib.ListN.{length}
use borrow.Author.Tests.{ne_eqb, eqb-true}
use Rattle.region_graph.specs.Size.{regions}
use Rattle.region_graph.specs.Lists.{pick, every, All, member}
use Rattle.region_graph.specs.Calls.{of_listed}
use Rattle.region_graph.specs.Model.{Model, Package, PackageEntry, Bundle, Part, Connection, Word, PackageFits, LegalEntry, SortedPart, entry_before}
use Rattle.region_graph.proofs.Lists.{and_fst, and_snd, all_map, all_both, member_all}
use Rattle.big_endian.specs.Bytes.{big, counted}
use Rattle.big_endian.proofs.Delimits.{Reader, read_number}
use Rattle.big_endian.proofs.Readers.{read_each, concat_back, read_list, read_both, read_sized, read_as, read_where}
use Rattle.region_archive.specs.Image.{part_bytes, bundle_fields, connection_fields, body_in, export_in, entry_in, plain_package, full_range}
use Rattle.region_archive.specs.RecordFields.{LegalElem}
use Rattle.region_archive.specs.Sections.{LegalIn}
use Rattle.region_archive.specs.declared.record_fields.Section.TheVariants as Section
use Rattle.region_archive.proofs.Versions.{each_or, legal_elements}

-- a list of numbers
read_numbers : Reader (All Word) (counted (big 4))
read_numbers = read_list (read_number 4)

-- a part whose count is not the sign "all"
abbrev pub FitPart : {A : Type 0} → (A → Type 0) → Part A → Type 0
FitPart good (Part.listed xs) = (length xs < 255) × All good xs
FitPart good Part.everything = Unit {0}

module _ {A : Type 0} {good : A → Type 0} {bytes : A → List ℕ} (p : Reader good bytes) where
  pub read_part : Reader (FitPart good) (part_bytes bytes)
  read_part = record { read = read; back = back }
    where
      read : List ℕ → Part A × List ℕ
      read [] = (Part.everything, [])
      read (n ∷ s) = pick (eqb n 255) (Part.everything, s) (Part.listed (read_each p.read n s).0, (read_each p.read n s).1)

      back : (x : Part A) (r : List ℕ) → FitPart good x → read (part_bytes bytes x ++ r) ≡ (x, r)
      back (Part.listed xs) r h =
          let e = concat_back p xs r h.1 in
          rw (ne_eqb (length xs) 255 (omega (arith, h.0))) (λ i. (Part.listed (e i).0, (e i).1))
      back Part.everything r h = refl

  -- what is written where b is true, and else is a value that a test tells
  module _ (test : A → Bool) (plain : A) (is_plain : (x : A) → test x ≡ true → x ≡ plain) where
    read_later : (b : Bool) → Reader (λ x. good x × ((b || test x) ≡ true)) (λ x. pick b (bytes x) [])
    read_later true = read_where (λ x h. h.0) p
    read_later false = record { read = λ s. (plain, s); back = λ x r h. (λ i. (sym (is_plain x h.1) i, r)) }

-- a package, an entry, a bundle, a connection and a model whose numbers fit their bytes, with no versions before version 3
module _ (v : ℕ) where
  abbrev FitPackage : Package → Type 0
  FitPackage p = (p.number < 256 ^ 4) × ((p.version < 256 ^ 2) × ((leb 3 v || plain_package p) ≡ true))

  read_package : Reader FitPackage (export_in v)
  read_package =
      read_as (λ t. record { number = t.0; version = t.1 }) (λ p. (p.number, p.version)) (λ p. refl)
      (read_both (read_number 4) (read_later (read_number 2) (λ n. eqb n 0) 0 (λ n e. eqb-true n 0 e) (leb 3 v)))

  abbrev FitEntry : PackageEntry → Type 0
  FitEntry e = (e.number < 256 ^ 4) × (((e.lowest < 256 ^ 2) × (e.highest < 256 ^ 2)) × ((leb 3 v || full_range e) ≡ true))

  read_entry : Reader FitEntry (entry_in v)
  read_entry =
      read_as (λ t. record { number = t.0; lowest = t.1.0; highest = t.1.1 }) (λ e. (e.number, (e.lowest, e.highest))) (λ e. refl)
      (read_both (read_number 4) (read_later (read_both (read_number 2) (read_number 2)) full (0, 65535) is_full (leb 3 v)))
    where
      full : ℕ × ℕ → Bool
      full q = eqb q.0 0 && eqb q.1 65535

      is_full : (q : ℕ × ℕ) → full q ≡ true → q ≡ (0, 65535)
      is_full q e =
          let low = eqb-true q.0 0 (and_fst (eqb q.0 0) (eqb q.1 65535) e) in
          let high = eqb-true q.1 65535 (and_snd (eqb q.0 0) (eqb q.1 65535) e) in
          λ i. (low i, high i)

  abbrev pub FitBundle : Bundle → Type 0
  FitBundle b = (b.location < 256 ^ 4) × ((b.region < 256 ^ 1) × (All FitPackage b.packages × All Word b.services))

  pub read_bundle : Reader FitBundle (bundle_fields (export_in v) (entry_in v))
  read_bundle =
      read_as (λ t. record { location = t.0; region = t.1.0; packages = t.1.1.0; services = t.1.1.1 })
      (λ b. (b.location, (b.region, (b.packages, b.services)))) (λ b. refl)
      (read_both (read_number 4) (read_both (read_number 1) (read_both (read_list read_package) read_numbers)))

  abbrev pub FitConnection : Connection → Type 0
  FitConnection c =
      (c.source < 256 ^ 1)
      × ((c.target < 256 ^ 1) × (All Word c.filter.bundles × (FitPart FitEntry c.filter.packages × FitPart Word c.filter.services)))

  pub read_connection : Reader FitConnection (connection_fields (export_in v) (entry_in v))
  read_connection =
      read_as (λ t. record { source = t.0; target = t.1.0; filter = record { bundles = t.1.1.0; packages = t.1.1.1.0; services = t.1.1.1.1 } })
      (λ c. (c.source, (c.target, (c.filter.bundles, (c.filter.packages, c.filter.services))))) (λ c. refl)
      (read_both (read_number 1)
      (read_both (read_number 1) (read_both read_numbers (read_both (read_part read_entry) (read_part (read_number 4))))))

  abbrev FitBody : Model → Type 0
  FitBody m = All (λ r. r < 256 ^ 1) m.regions × (All FitBundle m.bundles × All FitConnection m.connections)

  read_fitting : Reader FitBody (body_in v)
  read_fitting =
      read_as (λ t. record { regions = t.0; bundles = t.1.0; connections = t.1.1 }) (λ m. (m.regions, (m.bundles, m.connections))) (λ m. refl)
      (read_both (read_list (read_number 1)) (read_both (read_list (read_sized 2 read_bundle)) (read_list (read_sized 2 read_connection))))

  -- the numbers of a legal model with an image of version v fit their bytes
  fit_package : (p : Package) → PackageFits p × ((leb 3 v || plain_package p) ≡ true) → FitPackage p
  fit_package p (h, e) = (h.number, (h.version, e))

  fit_entry : (e : PackageEntry) → LegalEntry e × ((leb 3 v || full_range e) ≡ true) → FitEntry e
  fit_entry e (h, f) = (h.fits.number, ((h.fits.lowest, h.fits.highest), f))

  -- each element of a list that is good, and passes a test before version 3, fits
  fit_each : {A : Type 0} (Good Fit : A → Type 0) (plain : A → Bool) → ((x : A) → Good x × ((leb 3 v || plain x) ≡ true) → Fit x)
      → (xs : List A) → All Good xs → (leb 3 v || every plain xs) ≡ true → All Fit xs
  fit_each {A} Good Fit plain fit xs h e =
      let Plain : A → Type 0 = λ x. (leb 3 v || plain x) ≡ true in
      all_map (λ x. Good x × Plain x) Fit fit xs (all_both Good Plain xs h (each_or plain (leb 3 v) xs e))

  fit_entries : (p : Part PackageEntry) → SortedPart entry_before LegalEntry p → (leb 3 v || of_listed (every full_range) p) ≡ true → FitPart FitEntry p
  fit_entries (Part.listed es) h e = (omega (arith, h.few), fit_each LegalEntry FitEntry full_range fit_entry es h.each e)
  fit_entries Part.everything h e = tt

  fit_services : (p : Part ℕ) → SortedPart ltb Word p → FitPart Word p
  fit_services (Part.listed xs) h = (omega (arith, h.few), h.each)
  fit_services Part.everything h = tt

  module _ (rs : List ℕ) (n : All (λ r. r < regions) rs) where
    fit_region : (r : ℕ) → member r rs ≡ true → r < 256 ^ 1
    fit_region r e = omega (arith, member_all (λ s. s < regions) r rs n e)

    pub fit_bundle : (b : Bundle) → LegalElem (Section.Bundles v) rs b → FitBundle b
    fit_bundle b (h, e) =
        let packages = fit_each PackageFits FitPackage plain_package fit_package b.packages h.packages.each e in
        (h.location, (fit_region b.region h.region, (packages, h.services.each)))

    pub fit_connection : (c : Connection) → LegalElem (Section.Connections v) rs c → FitConnection c
    fit_connection c (h, e) =
        let f = h.filter in
        let parts : FitPart FitEntry c.filter.packages × FitPart Word c.filter.services =
        (fit_entries c.filter.packages f.packages e, fit_services c.filter.services f.services) in
        (fit_region c.source h.source, (fit_region c.target h.target, (f.bundles.each, parts)))

  fit_body : (m : Model) → LegalIn v m → FitBody m
  fit_body m h =
      let rs = m.regions in
      let small = h.0.regions_legal.each in
      let bundles = all_map (LegalElem (Section.Bundles v) rs) FitBundle (fit_bundle rs small) m.bundles (legal_elements (Section.Bundles v) m h).each in
      let connections =
      all_map (LegalElem (Section.Connections v) rs) FitConnection (fit_connection rs small) m.connections
      (legal_elements (Section.Connections v) m h).each in
      (all_map (λ r. r < regions) (λ r. r < 256 ^ 1) (λ r k. omega arith) rs small, (bundles, connections))

  -- a legal model that has an image of version v is read back from its body in that version
  pub read_body : Reader (LegalIn v) (body_in v)
  read_body = read_where fit_body read_fitting
