-- A graph's regions, bundles and connections as lists of plain numbers, which can be lent.
use Rattle.std.specs.Prelude.{◌≡◌, List, [], ◌∷◌, map, ℕ, ◌+◌, ◌*◌, ◌^◌, ◌≤◌, length, get_or, take, drop, Result, Ok, Err}
use Rattle.region_graph.specs.Size.{most_listed, most_provided, everything_sign}
use Rattle.region_graph.specs.Model.{Model, Package, PackageEntry, Bundle, Part, Connection, Legal}
use Rattle.region_graph.specs.Record.{Valid, meaning}
use Rattle.region_graph.specs.declared.Graph.{Graph}
use Rattle.region_graph.specs.declared.refusals.Refusal.{Refusal}

-- a package and an entry as one number, its code: 32 bits of the number, then 16 of each version
abbrev pub package_code : Package → ℕ
package_code p = p.number * 2 ^ 16 + p.version

abbrev pub entry_code : PackageEntry → ℕ
entry_code e = (e.number * 2 ^ 16 + e.lowest) * 2 ^ 16 + e.highest

abbrev pub map_part : {A B : Type 0} → (A → B) → Part A → Part B
map_part f (Part.listed xs) = Part.listed (map f xs)
map_part f Part.everything = Part.everything

-- what a bundle and a connection have in common: two numbers, then parts
pub record Fields : Type 0 where
  pub first : ℕ
  pub second : ℕ
  pub parts : List (Part ℕ)

abbrev pub fields_of_bundle : Bundle → Fields
fields_of_bundle b =
    record {
      first = b.location;
      second = b.region;
      parts = Part.listed (map package_code b.packages) ∷ Part.listed b.services ∷ [];
    }

abbrev pub fields_of_connection : Connection → Fields
fields_of_connection c =
    record {
      first = c.source;
      second = c.target;
      parts = Part.listed c.filter.bundles ∷ map_part entry_code c.filter.packages ∷ c.filter.services ∷ [];
    }

-- from place `at` on the numbers xs have a part: its count and its numbers, or the sign for everything
abbrev pub FlatPart : List ℕ → ℕ → Part ℕ → Type 0
FlatPart xs at (Part.listed ns) = (get_or xs at 0 ≡ length ns) × (take (length ns) (drop (at + 1) xs) ≡ ns)
FlatPart xs at Part.everything = get_or xs at 0 ≡ everything_sign

-- parts one after the other, each with places for `most` numbers; places past its count are free
abbrev pub FlatParts : ℕ → List ℕ → ℕ → List (Part ℕ) → Type 0
FlatParts most xs at [] = Unit {0}
FlatParts most xs at (p ∷ ps) = FlatPart xs at p × FlatParts most xs (at + (most + 1)) ps

pub record FlatFields (most : ℕ) (xs : List ℕ) (f : Fields) : Type 0 where
  pub first : get_or xs 0 0 ≡ f.first
  pub second : get_or xs 1 0 ≡ f.second
  pub parts : FlatParts most xs 2 f.parts

-- how many numbers a bundle and a connection take
abbrev pub bundle_width : ℕ
bundle_width = 2 + 2 * (most_provided + 1)

abbrev pub connection_width : ℕ
connection_width = 2 + 3 * (most_listed + 1)

-- elements one after the other, each in `width` numbers
abbrev pub Flat : {A : Type 0} → ℕ → (List ℕ → A → Type 0) → List ℕ → List A → Type 0
Flat width Is xs [] = xs ≡ []
Flat width Is xs (y ∷ ys) = (width ≤ length xs) × Is (take width xs) y × Flat width Is (drop width xs) ys

-- the model's regions, bundles and connections are these
pub record FlatModel (regions bundles connections : List ℕ) (m : Model) : Type 0 where
  pub regions_are : m.regions ≡ regions
  pub bundles_are : Flat bundle_width (λ xs b. FlatFields most_provided xs (fields_of_bundle b)) bundles m.bundles
  pub connections_are : Flat connection_width (λ xs c. FlatFields most_listed xs (fields_of_connection c)) connections m.connections

-- the graph of the legal model that has these lists; a refusal where none has
pub data Made (regions bundles connections : List ℕ) (r : Result Graph Refusal) : Type 0 where
  made : (m : Model) → Legal m → FlatModel regions bundles connections m
      → (g : Graph) → r ≡ Ok g → Valid g → meaning g ≡ m → Made regions bundles connections r
  none : ((m : Model) → Legal m → FlatModel regions bundles connections m → ⊥)
      → r ≡ Err Refusal.BrokenLayout → Made regions bundles connections r
