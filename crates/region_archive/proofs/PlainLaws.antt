-- Packages, entries, bundles and connections without versions: tests of columns.
use mathlib.Core.Path.{◌≡◌, refl, sym, ap, ap₂, ◌∙◌}
use mathlib.Core.Bool.{Bool, true, false, ◌&&◌, and-false}
use mathlib.Core.List.{List, [], ◌∷◌, map}
use Prim.Native.Nat.{ℕ, ◌≤◌}
use native.Mathlib.Omega.{arith}
use lib.Dec.{eqb}
use lib.ListN.{length, take}
use lib.Seq.{take_all}
use borrow.Author.Tests.{ne_eqb}
use Rattle.region_graph.specs.Size.{everything_sign}
use Rattle.region_graph.specs.Lists.{every}
use Rattle.region_graph.specs.Model.{packages, entries, Bundle, Connection}
use Rattle.region_graph.specs.Calls.{of_listed}
use Rattle.region_graph.specs.Record.{bundle_in, connection_in, packages_of, entries_of, package_part_in}
use Rattle.region_graph.specs.declared.packages.Packages.{Packages}
use Rattle.region_graph.specs.declared.packages.Entries.{Entries}
use Rattle.region_graph.specs.declared.bundles.StoredBundle.{StoredBundle}
use Rattle.region_graph.specs.declared.connections.StoredConnection.{StoredConnection}
use Rattle.region_graph.proofs.Lists.{every_map}
use Rattle.region_graph.proofs.Columns.{packages_length, package_versions, entries_length, entry_lowest, entry_highest}
use Rattle.region_archive.specs.Image.{plain_package, full_range, plain_bundle, plain_connection}
use Rattle.region_archive.specs.RecordFields.{PackagesFit, EntriesFit}
use Rattle.region_archive.proofs.Fits.{list_counted, part_list}

-- two tests of every element
every_both : {A : Type 0} (p q : A → Bool) (xs : List A) → every (λ x. p x && q x) xs ≡ (every p xs && every q xs)
every_both p q [] = refl
every_both p q (x ∷ xs) = go (p x) (q x) (every_both p q xs)
  where
    go : (a b : Bool) → every (λ y. p y && q y) xs ≡ (every p xs && every q xs)
        → ((a && b) && every (λ y. p y && q y) xs) ≡ ((a && every p xs) && (b && every q xs))
    go true true h = h
    go true false h = sym (and-false (every p xs))
    go false b h = refl

-- a test of one part of every element is a test of the part's column
every_column : {A : Type 0} (part : A → ℕ) (q : ℕ → Bool) (xs : List A) (column : List ℕ) → map part xs ≡ take (length xs) column
    → length column ≤ length xs → every (λ x. q (part x)) xs ≡ every q column
every_column part q xs column e h = sym (every_map part q xs) ∙ ap (every q) (e ∙ take_all (length xs) column h)

-- packages have version 0 where their versions are all 0
packages_every : (ns vs : List ℕ) → length ns ≡ length vs → every plain_package (packages ns vs) ≡ every (λ v. eqb v 0) vs
packages_every ns vs e =
    every_column (λ p. p.version) (λ v. eqb v 0) (packages ns vs) vs (package_versions ns vs) (omega (arith, packages_length ns vs))

-- entries run from 0 to 65535 where the lowest versions are all 0 and the highest all 65535
entries_every : (ns ls hs : List ℕ) → length ns ≡ length ls → length ns ≡ length hs
    → every full_range (entries ns ls hs) ≡ (every (λ v. eqb v 0) ls && every (λ v. eqb v 65535) hs)
entries_every ns ls hs e f =
    every_both (λ x. eqb x.lowest 0) (λ x. eqb x.highest 65535) (entries ns ls hs)
    ∙ ap₂ ◌&&◌
    (every_column (λ x. x.lowest) (λ v. eqb v 0) (entries ns ls hs) ls (entry_lowest ns ls hs) (omega (arith, entries_length ns ls hs)))
    (every_column (λ x. x.highest) (λ v. eqb v 65535) (entries ns ls hs) hs (entry_highest ns ls hs) (omega (arith, entries_length ns ls hs)))

-- the same of the packages of a bundle, and of the entries of a part without the sign
pub packages_plain : (p : Packages) → PackagesFit p → every (λ v. eqb v 0) (take p.count p.versions) ≡ every plain_package (packages_of p)
unfolding packages_of
packages_plain p h =
    sym (packages_every (take p.count p.numbers) (take p.count p.versions) (sym (list_counted h.numbers) ∙ list_counted h.versions))

pub entries_plain : (e : Entries) → EntriesFit e → (e.count ≡ everything_sign → ⊥)
    → (every (λ v. eqb v 0) (take e.count e.lowest) && every (λ v. eqb v 65535) (take e.count e.highest))
    ≡ of_listed (every full_range) (package_part_in e)
unfolding entries_of
entries_plain e h u =
    let n = sym (list_counted (part_list h.numbers u)) in
    rw (ne_eqb e.count everything_sign u)
    (sym (entries_every (take e.count e.numbers) (take e.count e.lowest) (take e.count e.highest)
    (n ∙ list_counted (part_list h.lowest u)) (n ∙ list_counted (part_list h.highest u))))

-- the same of bundles and of connections, by what they are stored as
pub bundles_plain : (bs : List StoredBundle) {m : List Bundle} → map bundle_in bs ≡ m
    → every (λ b. plain_bundle (bundle_in b)) bs ≡ every plain_bundle m
bundles_plain bs e = sym (every_map bundle_in plain_bundle bs) ∙ ap (every plain_bundle) e

pub connections_plain : (cs : List StoredConnection) {m : List Connection} → map connection_in cs ≡ m
    → every (λ c. plain_connection (connection_in c)) cs ≡ every plain_connection m
connections_plain cs e = sym (every_map connection_in plain_connection cs) ∙ ap (every plain_connection) e
