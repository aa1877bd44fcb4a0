-- Tables: the columns of a part, and how a loop puts the entries of the elements of a list.
use mathlib.Core.Path.{◌≡◌, refl, ap, ◌∙◌}
use mathlib.Core.Bool.{Bool, true, false}
use mathlib.Core.List.{List, [], ◌∷◌, ◌++◌, map, map-map}
use Prim.Native.Nat.{ℕ, suc, ◌-◌, ◌+◌, ◌*◌, ◌≤◌, ◌<◌}
use native.Mathlib.Nat.{mul-le-mul_right}
use native.Mathlib.Omega.{arith}
use lib.Dec.{eqb}
use lib.ListN.{length, get_or, take, replicate, length-map}
use lib.Seq.{take_all}
use borrow.Author.Tests.{eqb-false}
use Rattle.std.specs.List.{zip}
use Rattle.region_graph.specs.Size.{most_listed, everything_sign}
use Rattle.region_graph.specs.Lists.{pick, All, concat_map}
use Rattle.region_graph.specs.Model.{PackageEntry, Part}
use Rattle.region_graph.specs.Record.{entries_of, package_part_in}
use Rattle.region_graph.specs.Places.{PackagePartStored}
use Rattle.region_graph.specs.Promise.{new_part}
use Rattle.region_graph.specs.declared.packages.Entries.{Entries}
use Rattle.region_graph.proofs.Lists.{all_at, concat_next, concat_few}
use Rattle.region_graph.proofs.Arrays.{Filled, filled_taken, getD_map_in}
use Rattle.region_graph.proofs.Storing.{listed_entries_stored, entry_numbers_column, lowest_column, highest_column}
use Rattle.region_routes.specs.Tables.{packed, most_entries, listed_numbers, version_span}

-- the numbers of a part of packages
pub entries_in : (p : Entries) → PackagePartStored p
    → new_part (eqb p.count everything_sign) (take p.count p.numbers) ≡ listed_numbers (package_part_in p)
entries_in p s = go (eqb p.count everything_sign) refl
  where
    go : (b : Bool) → eqb p.count everything_sign ≡ b
        → new_part b (take p.count p.numbers) ≡ listed_numbers (pick b Part.everything (Part.listed (entries_of p)))
    go true e = refl
    go false e =
        ap Part.listed (filled_taken (entry_numbers_column p (listed_entries_stored p s (eqb-false p.count everything_sign e))))

-- the columns of the versions of entries
pub record SpanColumns (count : ℕ) (lowest highest : List ℕ) (es : List PackageEntry) : Type 0 where
  pub lows : Filled (λ e. e.lowest) 0 most_listed lowest count es
  pub highs : Filled (λ e. e.highest) 0 most_listed highest count es

pub span_columns : (p : Entries) → PackagePartStored p → (p.count ≡ everything_sign → ⊥) → SpanColumns p.count p.lowest p.highest (entries_of p)
span_columns p s e = let h = listed_entries_stored p s e in record { lows = lowest_column p h; highs = highest_column p h }

-- the pairs of two columns, of which the first may be longer
pub zipped : {A : Type 0} (a b : A → ℕ) (xs : List A) (rest : List ℕ) → zip (map a xs ++ rest) (map b xs) ≡ map (λ x. (a x, b x)) xs
zipped a b [] [] = refl
zipped a b [] (y ∷ rest) = refl
zipped a b (x ∷ xs) rest = ap (λ (l : List (ℕ × ℕ)). (a x, b x) ∷ l) (zipped a b xs rest)

-- the spans of entries, by their columns
pub spans_zipped : {count : ℕ} {lowest highest : List ℕ} {es : List PackageEntry} → SpanColumns count lowest highest es
    → map (λ p. packed p.0 p.1) (zip lowest (take count highest)) ≡ map version_span es
spans_zipped {es = es} h =
    rw (h.lows.shape, filled_taken h.highs)
    (ap (map (λ (p : ℕ × ℕ). packed p.0 p.1)) (zipped (λ e. e.lowest) (λ e. e.highest) es (replicate (most_listed - length es) 0))
    ∙ map-map (λ (p : ℕ × ℕ). packed p.0 p.1) (λ e. (e.lowest, e.highest)) es)

-- a list of elements as they are stored, each of which has at most w entries; a table has room for those of all
pub record Source {A B : Type 0} (store : A → B) (out : B → A) (f : A → List ℕ) (w : ℕ) (stored : List B) (xs : List A) : Type 0 where
  pub stored_is : stored ≡ map store xs
  pub back : All (λ x. out (store x) ≡ x) xs
  pub few : All (λ x. length (f x) ≤ w) xs
  pub fits : length xs * w ≤ most_entries

-- a loop over them has put the entries of the first i elements
module _ {A B : Type 0} {store : A → B} {w : ℕ} {out : B → A} {f : A → List ℕ} {stored : List B} {xs : List A} (s : Source store out f w stored xs) where
  pub stored_inside : {i : ℕ} → i < length stored → i < length xs
  stored_inside l = omega (arith, ap length s.stored_is, length-map xs store)

  pub source_at : (i : ℕ) (e : B) (d : A) → i < length stored → get_or stored i e ≡ store (get_or xs i d)
  source_at i e d l = ap (λ (bs : List B). get_or bs i e) s.stored_is ∙ getD_map_in store xs i e d (stored_inside l)

  source_means : (i : ℕ) (e : B) (d : A) → i < length stored → out (get_or stored i e) ≡ get_or xs i d
  source_means i e d l = ap out (source_at i e d l) ∙ all_at (λ x. out (store x) ≡ x) xs i d (stored_inside l) s.back

  module _ {items : List ℕ} {i : ℕ} (g : items ≡ concat_map f (take i xs)) where
    module _ (e : B) (d : A) (l : i < length stored) where
      pub gathering_room : length items + length (f (out (get_or stored i e))) ≤ most_entries
      gathering_room =
          let within : suc i ≤ length xs = omega (arith, stored_inside l) in
          let most : length (f (get_or xs i d)) ≤ w = all_at (λ x. length (f x) ≤ w) xs i d (stored_inside l) s.few in
          rw (source_means i e d l) (omega (arith, ap length g, concat_few f w xs s.few i, mul-le-mul_right w within, s.fits))

      pub gathering_next : {after : List ℕ} → after ≡ items ++ f (out (get_or stored i e)) → after ≡ concat_map f (take (i + 1) xs)
      gathering_next h = h ∙ rw (concat_next f xs i d (stored_inside l), ← g, source_means i e d l) refl

    pub gathering_end : length stored ≤ i → items ≡ concat_map f xs
    gathering_end l = g ∙ ap (concat_map f) (take_all i xs (omega (arith, ap length s.stored_is, length-map xs store)))
