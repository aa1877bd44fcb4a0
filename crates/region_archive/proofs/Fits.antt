-- What a valid graph hands out fits the places of an entry, and how many bytes it takes.
use mathlib.Core.Path.{◌≡◌, refl, sym, ap, ◌∙◌, subst}
use mathlib.Core.Bool.{Bool, true, false}
use mathlib.Core.List.{List, [], ◌∷◌, ◌++◌, map}
use Prim.Native.Nat.{ℕ, zero, suc, ◌+◌, ◌-◌, ◌*◌, ◌/◌, ◌≤◌, ◌<◌, min}
use native.Mathlib.Decide.{ℕ_discrete, dec_lt}
use native.Mathlib.Omega.{arith}
use borrow.Author.Tests.{eq-eqb, ne_eqb}
use lib.Dec.{eqb}
use lib.ListN.{length, take, get_or, replicate, length-map}
use lib.Seq.{length-take-le, take-append-le}
use Rattle.std.proofs.lemmas.List.{same_lists, get_or_append_left, get_or_push, get_or_default, get_or-map}
use Rattle.region_graph.specs.Size.{most_listed, most_provided, everything_sign}
use Rattle.region_graph.specs.Model.{Package, PackageEntry, packages, entries, Bundle, Part, Connection}
use Rattle.region_graph.specs.Lists.{pick}
use Rattle.region_graph.specs.Flat.{package_code, entry_code, map_part}
use Rattle.region_graph.specs.Record.{places, store_packages, packages_of, store_entries, entries_of, store_package_part, package_part_in}
use Rattle.region_graph.specs.Record.{number_places, numbers_of, store_numbers, store_provided, provided_of}
use Rattle.region_graph.specs.Record.{store_part, part_in, store_bundle, store_connection}
use Rattle.region_graph.specs.Places.{Short, ShortPart, ShortBundle, ShortConnection}
use Rattle.region_graph.specs.declared.numbers.Numbers.{Numbers}
use Rattle.region_graph.specs.declared.numbers.Provided.{Provided}
use Rattle.region_graph.specs.declared.packages.Packages.{Packages}
use Rattle.region_graph.specs.declared.packages.Entries.{Entries}
use Rattle.region_graph.proofs.Lists.{concat_length}
use Rattle.region_graph.proofs.Arrays.{Filled, filled_length, map_take}
use Rattle.region_graph.proofs.Columns.{no_package, no_range, packages_length, packages_at, entries_length, entries_at}
use Rattle.region_graph.proofs.Storing.{map_id}
use Rattle.big_endian.specs.Bytes.{counted}
use Rattle.big_endian.proofs.Digits.{big_length}
use Rattle.region_archive.specs.Forms.{element_bytes, scale}
use Rattle.region_archive.specs.RecordFields.{as_codes, codes_of, counted_part, part_of, CodesFit, CodePartFits}
use Rattle.region_archive.specs.RecordFields.{ListFits, NumbersFit, ProvidedFits, PartFits, PackagesFit, EntriesFit, BundleFits, ConnectionFits}
use Rattle.region_archive.specs.RecordFields.{first_width, field_count}
use Rattle.region_archive.specs.declared.forms.Form.{Form}
use Rattle.region_archive.specs.declared.record_fields.Codes.{Codes}
use Rattle.region_archive.specs.declared.record_fields.Section.{Section}

-- a short list that is stored fits
places_fit : (most : ℕ) (xs : List ℕ) → Short most xs → ListFits most (length xs) (number_places most xs)
places_fit most xs h =
    let f : Filled (λ x. x) 0 most (number_places most xs) (length xs) xs = record { shape = refl; counted = refl; room = h } in
    record { count = h; size = filled_length f }

pub numbers_fit : (xs : List ℕ) → Short most_listed xs → NumbersFit (store_numbers xs)
unfolding store_numbers
numbers_fit xs h = places_fit most_listed xs h

pub provided_fit : (xs : List ℕ) → Short most_provided xs → ProvidedFits (store_provided xs)
unfolding store_provided
provided_fit xs h = places_fit most_provided xs h

-- a list that fits is not longer than its places, and its count is the length of its part of them
module _ {most n : ℕ} {items : List ℕ} (h : ListFits most n items) where
  pub list_within : n ≤ length items
  list_within = omega (arith, h.count, h.size)

  pub list_counted : n ≡ length (take n items)
  list_counted = sym (length-take-le n items list_within)

-- a list is a part, and a part without the sign is a list
module _ {n : ℕ} {items : List ℕ} where
  pub list_part : ListFits most_listed n items → PartFits n items
  list_part h = record { count = λ e. h.count; size = h.size }

  pub part_list : PartFits n items → (n ≡ everything_sign → ⊥) → ListFits most_listed n items
  part_list h e = record { count = h.count e; size = h.size }

-- a part by its count
module _ (n : ℕ) (items : List ℕ) where
  pub part_all : n ≡ everything_sign → counted_part n items ≡ Part.everything
  part_all e = rw (eq-eqb n everything_sign e)

  pub part_listed : (n ≡ everything_sign → ⊥) → counted_part n items ≡ Part.listed (take n items)
  part_listed e = rw (ne_eqb n everything_sign e)

-- numbers as codes: a part of the same elements
module _ (n : ℕ) (items : List ℕ) (within : (n ≡ everything_sign → ⊥) → n ≤ length items) (room : length items ≤ most_listed) {r : Codes}
    (e : r ≡ as_codes n items) where
  pub coded_fits : CodePartFits r
  coded_fits = subst CodePartFits (sym e) (record { count = λ u. omega (arith, within u); size = (places_fit most_listed items room).size })

  pub coded_part : part_of r ≡ counted_part n items
  coded_part = ap part_of e ∙ go (ℕ_discrete n everything_sign)
    where
      go : Dec (n ≡ everything_sign) → counted_part n (number_places most_listed items) ≡ counted_part n items
      go (yes i) = part_all n (number_places most_listed items) i ∙ sym (part_all n items i)
      go (no i) =
          part_listed n (number_places most_listed items) i
          ∙ ap Part.listed (rw map_id (take-append-le n items (replicate (most_listed - length items) 0) (within i))) ∙ sym (part_listed n items i)

  pub coded_list : (n ≡ everything_sign → ⊥) → part_of r ≡ Part.listed (take n items)
  coded_list i = coded_part ∙ part_listed n items i

-- packages and entries as codes
take_packages : (n : ℕ) (ns vs : List ℕ) → take n (packages ns vs) ≡ packages (take n ns) (take n vs)
take_packages zero ns vs = refl
take_packages (suc n) [] vs = refl
take_packages (suc n) (x ∷ ns) [] = refl
take_packages (suc n) (x ∷ ns) (v ∷ vs) = ap (λ (l : List Package). record { number = x; version = v } ∷ l) (take_packages n ns vs)

take_entries : (n : ℕ) (ns ls hs : List ℕ) → take n (entries ns ls hs) ≡ entries (take n ns) (take n ls) (take n hs)
take_entries zero ns ls hs = refl
take_entries (suc n) [] ls hs = refl
take_entries (suc n) (x ∷ ns) [] hs = refl
take_entries (suc n) (x ∷ ns) (l ∷ ls) [] = refl
take_entries (suc n) (x ∷ ns) (l ∷ ls) (h ∷ hs) =
    ap (λ (t : List PackageEntry). record { number = x; lowest = l; highest = h } ∷ t) (take_entries n ns ls hs)

-- what holds of each number so far, and of one more
pub posts_more : (P : ℕ → ℕ → Type 0) (xs : List ℕ) (r : ℕ) {i : ℕ} → i ≡ length xs → ((k : ℕ) → k < i → P k (get_or xs k 0)) → P i r
    → (k : ℕ) → k < i + 1 → P k (get_or (xs ++ (r ∷ [])) k 0)
posts_more P xs r {i} e h p k l = go (dec_lt k i)
  where
    go : Dec (k < i) → P k (get_or (xs ++ (r ∷ [])) k 0)
    go (yes m) = subst (P k) (sym (get_or_append_left xs (r ∷ []) 0 k (omega (arith, e)))) (h k m)
    go (no m) =
        let same : k ≡ i = omega arith in
        let last : get_or (xs ++ (r ∷ [])) k 0 ≡ r = get_or_push xs r 0 k (omega (arith, e)) in
        subst (P k) (sym last) (subst (λ (n : ℕ). P n r) (sym same) p)

-- codes of the elements of a list, by what each is
pub codes_are : {A : Type 0} (code : A → ℕ) (ys : List A) (d : A) (xs : List ℕ) (n : ℕ) → length xs ≡ length ys
    → ((k : ℕ) → k < length ys → get_or xs k 0 ≡ code (get_or ys k d)) → as_codes n xs ≡ as_codes n (map code ys)
codes_are code ys d xs n e h =
    ap (as_codes n)
    (same_lists xs (map code ys) (e ∙ sym (length-map ys code))
    (λ k z l. let m : k < length ys = omega (arith, e) in
    get_or_default xs k z 0 l ∙ h k m ∙ sym (get_or-map code ys k d z m)))

-- of numbers, of packages and of entries
pub numbers_coded : (ns xs : List ℕ) (n : ℕ) → length xs ≡ length ns → ((k : ℕ) → k < length ns → get_or xs k 0 ≡ get_or ns k 0)
    → as_codes n xs ≡ as_codes n ns
numbers_coded ns xs n e h = codes_are (λ x. x) ns 0 xs n e h ∙ ap (as_codes n) (map_id ns)

pub packages_coded : (p : Packages) → PackagesFit p → (xs : List ℕ) → length xs ≡ most_provided
    → ((k : ℕ) → k < most_provided → get_or xs k 0 ≡ get_or p.numbers k 0 * 65536 + get_or p.versions k 0)
    → as_codes p.count xs ≡ as_codes p.count (map package_code (packages p.numbers p.versions))
packages_coded p h xs e each =
    let ps = packages p.numbers p.versions in
    let long : length ps ≡ most_provided = packages_length p.numbers p.versions ∙ (λ i. min (h.numbers.size i) (h.versions.size i)) in
    codes_are package_code ps no_package xs p.count (e ∙ sym long)
    (λ k l. each k (omega (arith, long)) ∙ ap package_code (sym (packages_at p.numbers p.versions k l)))

pub entries_coded : (p : Entries) → EntriesFit p → (xs : List ℕ) → length xs ≡ most_listed
    → ((k : ℕ) → k < most_listed → get_or xs k 0 ≡ (get_or p.numbers k 0 * 65536 + get_or p.lowest k 0) * 65536 + get_or p.highest k 0)
    → as_codes p.count xs ≡ as_codes p.count (map entry_code (entries p.numbers p.lowest p.highest))
entries_coded p h xs e each =
    let es = entries p.numbers p.lowest p.highest in
    let long : length es ≡ most_listed =
    entries_length p.numbers p.lowest p.highest ∙ (λ i. min (min (h.numbers.size i) (h.lowest.size i)) (h.highest.size i)) in
    codes_are entry_code es no_range xs p.count (e ∙ sym long)
    (λ k l. each k (omega (arith, long)) ∙ ap entry_code (sym (entries_at p.numbers p.lowest p.highest k l)))

module _ (p : Packages) (h : PackagesFit p) {r : Codes} (e : r ≡ as_codes p.count (map package_code (packages p.numbers p.versions))) where
  codes_long : length (map package_code (packages p.numbers p.versions)) ≡ most_provided
  codes_long =
      length-map (packages p.numbers p.versions) package_code ∙ packages_length p.numbers p.versions
      ∙ (λ i. min (h.numbers.size i) (h.versions.size i))

  pub packages_fits : CodePartFits r
  packages_fits =
      coded_fits p.count (map package_code (packages p.numbers p.versions)) (λ i. omega (arith, h.numbers.count, codes_long))
      (omega (arith, codes_long)) e

  pub packages_part : part_of r ≡ Part.listed (map package_code (packages_of p))
  unfolding packages_of
  packages_part =
      coded_list p.count (map package_code (packages p.numbers p.versions)) (λ i. omega (arith, h.numbers.count, codes_long))
      (omega (arith, codes_long)) e (λ i. omega (arith, h.numbers.count))
      ∙ ap Part.listed (sym (map_take package_code p.count (packages p.numbers p.versions))
      ∙ ap (map package_code) (take_packages p.count p.numbers p.versions))

module _ (p : Entries) (h : EntriesFit p) {r : Codes}
    (e : r ≡ as_codes p.count (map entry_code (entries p.numbers p.lowest p.highest))) where
  abbrev listed : List PackageEntry
  listed = entries p.numbers p.lowest p.highest

  abbrev first_listed : List PackageEntry
  first_listed = entries (take p.count p.numbers) (take p.count p.lowest) (take p.count p.highest)

  entries_long : length (map entry_code listed) ≡ most_listed
  entries_long =
      length-map listed entry_code ∙ entries_length p.numbers p.lowest p.highest
      ∙ (λ i. min (min (h.numbers.size i) (h.lowest.size i)) (h.highest.size i))

  pub entries_fits : CodePartFits r
  entries_fits =
      coded_fits p.count (map entry_code listed) (λ i. omega (arith, h.numbers.count i, entries_long)) (omega (arith, entries_long)) e

  pub entries_part : part_of r ≡ map_part entry_code (package_part_in p)
  unfolding entries_of
  entries_part =
      coded_part p.count (map entry_code listed) (λ i. omega (arith, h.numbers.count i, entries_long)) (omega (arith, entries_long)) e
      ∙ go (eqb p.count everything_sign)
    where
      go : (b : Bool) → pick b Part.everything (Part.listed (take p.count (map entry_code listed)))
          ≡ map_part entry_code (pick b Part.everything (Part.listed first_listed))
      go true = refl
      go false =
          ap Part.listed (sym (map_take entry_code p.count listed)
          ∙ ap (map entry_code) (take_entries p.count p.numbers p.lowest p.highest))

-- what a bundle brings, and what a part of a connection has
module _ (n : Provided) (h : ProvidedFits n) {r : Codes} (e : r ≡ as_codes n.count n.items) where
  pub provided_fits : CodePartFits r
  provided_fits = coded_fits n.count n.items (λ i. omega (arith, h.count, h.size)) (omega (arith, h.size)) e

  pub provided_part : part_of r ≡ Part.listed (provided_of n)
  unfolding provided_of
  provided_part = coded_list n.count n.items (λ i. omega (arith, h.count, h.size)) (omega (arith, h.size)) e (λ i. omega (arith, h.count))

module _ (n : Numbers) (h : PartFits n.count n.items) {r : Codes} (e : r ≡ as_codes n.count n.items) where
  pub numbers_fits : CodePartFits r
  numbers_fits = coded_fits n.count n.items (λ i. omega (arith, h.count i, h.size)) (omega (arith, h.size)) e

  pub numbers_part : part_of r ≡ part_in n
  unfolding numbers_of
  numbers_part = coded_part n.count n.items (λ i. omega (arith, h.count i, h.size)) (omega (arith, h.size)) e

-- a list has not the sign
pub list_in : (n : Numbers) → NumbersFit n → part_in n ≡ Part.listed (numbers_of n)
unfolding numbers_of
list_in n h = part_listed n.count n.items (λ e. omega (arith, h.count))

-- and so do a part, a bundle and a connection of short lists
pub part_fits : (p : Part ℕ) → ShortPart p → PartFits (store_part p).count (store_part p).items
part_fits (Part.listed xs) h = list_part (numbers_fit xs h)
part_fits Part.everything h = record { count = λ e. absurd (e refl); size = refl }

-- each column of what is stored
column_fits : {A : Type 0} (part : A → ℕ) (most : ℕ) (xs : List A) → Short most xs → ListFits most (length xs) (places part 0 most xs)
column_fits part most xs h =
    let f : Filled part 0 most (places part 0 most xs) (length xs) xs = record { shape = refl; counted = refl; room = h } in
    record { count = h; size = filled_length f }

stored_packages_fit : (ps : List Package) → Short most_provided ps → PackagesFit (store_packages ps)
unfolding store_packages
stored_packages_fit ps h =
    record { numbers = column_fits (λ p. p.number) most_provided ps h; versions = column_fits (λ p. p.version) most_provided ps h }

stored_entries_fit : (p : Part PackageEntry) → ShortPart p → EntriesFit (store_package_part p)
unfolding store_entries
stored_entries_fit (Part.listed es) h =
    record {
      numbers = list_part (column_fits (λ e. e.number) most_listed es h);
      lowest = list_part (column_fits (λ e. e.lowest) most_listed es h);
      highest = list_part (column_fits (λ e. e.highest) most_listed es h);
    }
stored_entries_fit Part.everything h =
    let none : PartFits everything_sign (number_places most_listed []) = record { count = λ e. absurd (e refl); size = refl } in
    record { numbers = none; lowest = none; highest = none }

pub bundle_fits : (b : Bundle) → ShortBundle b → BundleFits (store_bundle b)
bundle_fits b h = record { packages = stored_packages_fit b.packages h.packages; services = provided_fit b.services h.services }

pub connection_fits : (c : Connection) → ShortConnection c → ConnectionFits (store_connection c)
connection_fits c h = record {
  bundles = numbers_fit c.filter.bundles h.bundles;
  packages = stored_entries_fit c.filter.packages h.packages;
  services = part_fits c.filter.services h.services;
}

-- a list takes one byte, and as many as the form says for each element
pub list_size : (f : Form) (n : Codes) → CodesFit n → length (counted (element_bytes f) (codes_of n)) ≡ 1 + n.count * f.width
list_size f n h =
    let each = concat_length (element_bytes f) f.width (λ c. big_length f.width (c / scale f)) (codes_of n) in
    omega (arith, each, ap (λ (m : ℕ). m * f.width) (list_counted h))

-- a section's records have few fields, and a narrow first one
pub few_fields : (s : Section) → field_count s ≤ 5
few_fields (Section.Bundles v) = omega arith
few_fields (Section.Connections v) = omega arith

pub narrow_first : (s : Section) → first_width s ≤ 4
narrow_first (Section.Bundles v) = omega arith
narrow_first (Section.Connections v) = omega arith
