-- Packages and entries as columns: their parts at equal places of lists, of which the shortest counts.
use mathlib.Core.Path.{◌≡◌, refl, sym, ap, ◌∙◌}
use mathlib.Core.List.{List, [], ◌∷◌, ◌++◌, map}
use Prim.Native.Nat.{ℕ, zero, suc, ◌-◌, ◌≤◌, ◌<◌, min}
use native.Mathlib.Omega.{arith}
use lib.Dec.{ltb}
use lib.ListN.{length, get_or, take, drop, replicate, length-map, length-replicate}
use lib.Seq.{length-take-le}
use Rattle.region_graph.specs.Size.{most_provided, most_listed}
use Rattle.region_graph.specs.Lists.{All, ascends}
use Rattle.region_graph.specs.Model.{Package, PackageEntry, packages, entries, package_before, entry_before, Word, Version, PackageFits, EntryFits}
use Rattle.region_graph.specs.Record.{places, store_packages, store_entries}
use Rattle.region_graph.specs.Places.{put_into}
use Rattle.region_graph.specs.declared.packages.Packages.{Packages}
use Rattle.region_graph.specs.declared.packages.Entries.{Entries}
use Rattle.region_graph.proofs.Ascending.{ascends_map}
use Rattle.region_graph.proofs.Arrays.{drop_replicate}

-- what has no package, and no entry
abbrev pub no_package : Package
no_package = record { number = 0; version = 0 }

abbrev pub no_range : PackageEntry
no_range = record { number = 0; lowest = 0; highest = 0 }

-- a column whose first elements were put into cleared places
column_put : {A : Type 0} (f : A → ℕ) (size : ℕ) (xs : List A) (column : List ℕ) {count : ℕ} {items : List ℕ} → count ≡ length xs → length xs ≤ size
    → map f xs ≡ take (length xs) column → items ≡ put_into (replicate size 0) (take count column) → items ≡ places f 0 size xs
column_put f size xs column e h m p = rw (p, e, ← m, length-map, drop_replicate {A = ℕ} 0 size (length xs) h)

-- packages

pub packages_length : (ns vs : List ℕ) → length (packages ns vs) ≡ min (length ns) (length vs)
packages_length [] vs = omega arith
packages_length (n ∷ ns) [] = omega arith
packages_length (n ∷ ns) (v ∷ vs) = omega (arith, packages_length ns vs)

pub packages_within : (ns vs : List ℕ) {count : ℕ} → count ≡ length (packages ns vs) → (count ≤ length ns) × (count ≤ length vs)
packages_within ns vs e = omega (arith, packages_length ns vs)

pub packages_taken : (ns vs : List ℕ) {count : ℕ} → count ≡ length (packages ns vs)
    → (count ≡ length (take count ns)) × (count ≡ length (take count vs))
packages_taken ns vs e =
    let h = packages_within ns vs e in
    (sym (length-take-le _ ns h.0), sym (length-take-le _ vs h.1))

pub packages_at : (ns vs : List ℕ) (i : ℕ) → i < length (packages ns vs)
    → get_or (packages ns vs) i no_package ≡ record { number = get_or ns i 0; version = get_or vs i 0 }
packages_at [] vs i h = absurd (omega arith)
packages_at (n ∷ ns) [] i h = absurd (omega arith)
packages_at (n ∷ ns) (v ∷ vs) zero h = refl
packages_at (n ∷ ns) (v ∷ vs) (suc i) h = packages_at ns vs i (omega arith)

-- the columns of packages give them back
pub packages_whole : (ps : List Package) → packages (map (λ p. p.number) ps) (map (λ p. p.version) ps) ≡ ps
packages_whole [] = refl
packages_whole (p ∷ ps) = ap (λ (l : List Package). p ∷ l) (packages_whole ps)

-- and are the lists, as far as the shortest goes
pub package_numbers : (ns vs : List ℕ) → map (λ p. p.number) (packages ns vs) ≡ take (length (packages ns vs)) ns
package_numbers [] vs = refl
package_numbers (n ∷ ns) [] = refl
package_numbers (n ∷ ns) (v ∷ vs) = ap (λ (l : List ℕ). n ∷ l) (package_numbers ns vs)

pub package_versions : (ns vs : List ℕ) → map (λ p. p.version) (packages ns vs) ≡ take (length (packages ns vs)) vs
package_versions [] vs = refl
package_versions (n ∷ ns) [] = refl
package_versions (n ∷ ns) (v ∷ vs) = ap (λ (l : List ℕ). v ∷ l) (package_versions ns vs)

pub packages_fit : (ns vs : List ℕ) → ((i : ℕ) → Word (get_or ns i 0)) → ((i : ℕ) → Version (get_or vs i 0)) → All PackageFits (packages ns vs)
packages_fit [] vs f g = tt
packages_fit (n ∷ ns) [] f g = tt
packages_fit (n ∷ ns) (v ∷ vs) f g = (record { number = f 0; version = g 0 }, packages_fit ns vs (λ i. f (suc i)) (λ i. g (suc i)))

-- one package and the next
pub packages_step : (ns vs : List ℕ) (i : ℕ) → 1 ≤ i → i < length (packages ns vs)
    → package_before (get_or (packages ns vs) (i - 1) no_package) (get_or (packages ns vs) i no_package)
    ≡ package_before (record { number = get_or ns (i - 1) 0; version = get_or vs (i - 1) 0 }) (record { number = get_or ns i 0; version = get_or vs i 0 })
packages_step ns vs i p h = rw (packages_at ns vs (i - 1) (omega arith), packages_at ns vs i h)

-- the columns in cleared places are what stores the packages
pub packages_put : (ns vs : List ℕ) {count : ℕ} {numbers versions : List ℕ} → count ≡ length (packages ns vs) → length (packages ns vs) ≤ most_provided
    → numbers ≡ put_into (replicate most_provided 0) (take count ns) → versions ≡ put_into (replicate most_provided 0) (take count vs)
    → ◌≡◌ {A = Packages} (record { count = count; numbers = numbers; versions = versions }) (store_packages (packages ns vs))
unfolding store_packages
packages_put ns vs e h f g = λ i. record {
  count = e i;
  numbers = column_put (λ p. p.number) most_provided (packages ns vs) ns e h (package_numbers ns vs) f i;
  versions = column_put (λ p. p.version) most_provided (packages ns vs) vs e h (package_versions ns vs) g i;
}

-- entries

pub entries_length : (ns ls hs : List ℕ) → length (entries ns ls hs) ≡ min (min (length ns) (length ls)) (length hs)
entries_length [] ls hs = omega arith
entries_length (n ∷ ns) [] hs = omega arith
entries_length (n ∷ ns) (l ∷ ls) [] = omega arith
entries_length (n ∷ ns) (l ∷ ls) (h ∷ hs) = omega (arith, entries_length ns ls hs)

pub entries_within : (ns ls hs : List ℕ) {count : ℕ} → count ≡ length (entries ns ls hs)
    → (count ≤ length ns) × (count ≤ length ls) × (count ≤ length hs)
entries_within ns ls hs e = omega (arith, entries_length ns ls hs)

pub entries_taken : (ns ls hs : List ℕ) {count : ℕ} → count ≡ length (entries ns ls hs)
    → (count ≡ length (take count ns)) × (count ≡ length (take count ls)) × (count ≡ length (take count hs))
entries_taken ns ls hs e =
    let h = entries_within ns ls hs e in
    (sym (length-take-le _ ns h.0), sym (length-take-le _ ls h.1), sym (length-take-le _ hs h.2))

pub entries_at : (ns ls hs : List ℕ) (i : ℕ) → i < length (entries ns ls hs)
    → get_or (entries ns ls hs) i no_range ≡ record { number = get_or ns i 0; lowest = get_or ls i 0; highest = get_or hs i 0 }
entries_at [] ls hs i h = absurd (omega arith)
entries_at (n ∷ ns) [] hs i h = absurd (omega arith)
entries_at (n ∷ ns) (l ∷ ls) [] i h = absurd (omega arith)
entries_at (n ∷ ns) (l ∷ ls) (k ∷ hs) zero h = refl
entries_at (n ∷ ns) (l ∷ ls) (k ∷ hs) (suc i) h = entries_at ns ls hs i (omega arith)

pub entries_whole : (es : List PackageEntry) → entries (map (λ e. e.number) es) (map (λ e. e.lowest) es) (map (λ e. e.highest) es) ≡ es
entries_whole [] = refl
entries_whole (e ∷ es) = ap (λ (l : List PackageEntry). e ∷ l) (entries_whole es)

pub entry_numbers : (ns ls hs : List ℕ) → map (λ e. e.number) (entries ns ls hs) ≡ take (length (entries ns ls hs)) ns
entry_numbers [] ls hs = refl
entry_numbers (n ∷ ns) [] hs = refl
entry_numbers (n ∷ ns) (l ∷ ls) [] = refl
entry_numbers (n ∷ ns) (l ∷ ls) (k ∷ hs) = ap (λ (t : List ℕ). n ∷ t) (entry_numbers ns ls hs)

pub entry_lowest : (ns ls hs : List ℕ) → map (λ e. e.lowest) (entries ns ls hs) ≡ take (length (entries ns ls hs)) ls
entry_lowest [] ls hs = refl
entry_lowest (n ∷ ns) [] hs = refl
entry_lowest (n ∷ ns) (l ∷ ls) [] = refl
entry_lowest (n ∷ ns) (l ∷ ls) (k ∷ hs) = ap (λ (t : List ℕ). l ∷ t) (entry_lowest ns ls hs)

pub entry_highest : (ns ls hs : List ℕ) → map (λ e. e.highest) (entries ns ls hs) ≡ take (length (entries ns ls hs)) hs
entry_highest [] ls hs = refl
entry_highest (n ∷ ns) [] hs = refl
entry_highest (n ∷ ns) (l ∷ ls) [] = refl
entry_highest (n ∷ ns) (l ∷ ls) (k ∷ hs) = ap (λ (t : List ℕ). k ∷ t) (entry_highest ns ls hs)

pub entries_fit : (ns ls hs : List ℕ) → ((i : ℕ) → Word (get_or ns i 0)) → ((i : ℕ) → Version (get_or ls i 0)) → ((i : ℕ) → Version (get_or hs i 0))
    → All EntryFits (entries ns ls hs)
entries_fit [] ls hs f g k = tt
entries_fit (n ∷ ns) [] hs f g k = tt
entries_fit (n ∷ ns) (l ∷ ls) [] f g k = tt
entries_fit (n ∷ ns) (l ∷ ls) (h ∷ hs) f g k =
    (record { number = f 0; lowest = g 0; highest = k 0 }, entries_fit ns ls hs (λ i. f (suc i)) (λ i. g (suc i)) (λ i. k (suc i)))

-- entries ascend as their numbers do
pub entries_ascend : (ns ls hs : List ℕ) {count : ℕ} → count ≡ length (entries ns ls hs)
    → ascends ltb (take count ns) ≡ ascends entry_before (entries ns ls hs)
entries_ascend ns ls hs e = rw (e, ← entry_numbers ns ls hs) (ascends_map (λ x. x.number) ltb (entries ns ls hs))

pub entries_put : (ns ls hs : List ℕ) {count : ℕ} {numbers lowest highest : List ℕ} → count ≡ length (entries ns ls hs)
    → length (entries ns ls hs) ≤ most_listed → numbers ≡ put_into (replicate most_listed 0) (take count ns)
    → lowest ≡ put_into (replicate most_listed 0) (take count ls) → highest ≡ put_into (replicate most_listed 0) (take count hs)
    → ◌≡◌ {A = Entries} (record { count = count; numbers = numbers; lowest = lowest; highest = highest }) (store_entries (entries ns ls hs))
unfolding store_entries
entries_put ns ls hs e h f g k = λ i. record {
  count = e i;
  numbers = column_put (λ x. x.number) most_listed (entries ns ls hs) ns e h (entry_numbers ns ls hs) f i;
  lowest = column_put (λ x. x.lowest) most_listed (entries ns ls hs) ls e h (entry_lowest ns ls hs) g i;
  highest = column_put (λ x. x.highest) most_listed (entries ns ls hs) hs e h (entry_highest ns ls hs) k i;
}

-- a column that is copied into the first of so many cleared places
module _ (size count : ℕ) (xs : List ℕ) (e : count ≡ length (take count xs)) where
  pub alike : count ≤ size → length (take count (replicate {A = ℕ} size 0)) ≡ length (take count xs)
  alike l = length-take-le count (replicate {A = ℕ} size 0) (rw length-replicate l) ∙ e

  pub copied_in : {new : List ℕ} → new ≡ take count xs → new ++ drop count (replicate size 0) ≡ put_into (replicate size 0) (take count xs)
  copied_in f = rw f (ap (λ (k : ℕ). take count xs ++ drop k (replicate size 0)) e)
