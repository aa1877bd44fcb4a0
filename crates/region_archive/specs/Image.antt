-- Document 01, "The archive", and C-13 and C-15 of document 02: the images of a model.
use Rattle.std.specs.Prelude.{Bool, ◌&&◌, ◌||◌, List, [], ◌∷◌, ◌++◌, ℕ, eqb, leb}
use Rattle.region_graph.specs.Lists.{pick, exists, every}
use Rattle.region_graph.specs.Model.{Model, Package, PackageEntry, Bundle, Part, Connection}
use Rattle.region_graph.specs.Calls.{of_listed}
use Rattle.big_endian.specs.Bytes.{big, counted, sized}

-- a part: the count 255 with no numbers means everything
abbrev pub part_bytes : {A : Type 0} → (A → List ℕ) → Part A → List ℕ
part_bytes element (Part.listed xs) = counted element xs
part_bytes element Part.everything = 255 ∷ []

-- over the bytes of a package that a bundle has, and those of an entry of a package part
module _ (export : Package → List ℕ) (entry : PackageEntry → List ℕ) where
  abbrev pub bundle_fields : Bundle → List ℕ
  bundle_fields b = big 4 b.location ++ (big 1 b.region ++ (counted export b.packages ++ counted (big 4) b.services))

  abbrev pub connection_fields : Connection → List ℕ
  connection_fields c =
      big 1 c.source
      ++ (big 1 c.target
      ++ (counted (big 4) c.filter.bundles ++ (part_bytes entry c.filter.packages ++ part_bytes (big 4) c.filter.services)))

  abbrev pub body_of : Model → List ℕ
  body_of m =
      counted (big 1) m.regions
      ++ (counted (sized 2 bundle_fields) m.bundles ++ counted (sized 2 connection_fields) m.connections)

  -- the version byte, the length of the body, the body
  abbrev pub image_of : ℕ → Model → List ℕ
  image_of v m = v ∷ sized 4 body_of m

-- the version that is written
abbrev pub latest : ℕ
latest = 3

-- from version 3 on its version stands behind the number of a package, and the lowest and the highest behind the number of an entry
abbrev pub export_in : ℕ → Package → List ℕ
export_in v p = big 4 p.number ++ pick (leb 3 v) (big 2 p.version) []

abbrev pub entry_in : ℕ → PackageEntry → List ℕ
entry_in v e = big 4 e.number ++ pick (leb 3 v) (big 2 e.lowest ++ big 2 e.highest) []

abbrev pub body_in : ℕ → Model → List ℕ
body_in v = body_of (export_in v) (entry_in v)

unfoldable pub image_in : ℕ → Model → List ℕ
image_in v m = image_of (export_in v) (entry_in v) v m

-- the image that is written
abbrev pub image : Model → List ℕ
image m = image_in latest m

-- the region numbers of version 1 are below this
abbrev pub early_regions : ℕ
early_regions = 16

-- of the versions before 3, version 2 where some region is not one of them, else version 1
unfoldable pub older_version : List ℕ → ℕ
older_version rs = pick (exists (leb early_regions) rs) 2 1

-- the image that was written before version 3
abbrev pub older_image : Model → List ℕ
older_image m = image_in (older_version m.regions) m

-- what an older file can say of a package and of an entry
abbrev pub plain_package : Package → Bool
plain_package p = eqb p.version 0

abbrev pub full_range : PackageEntry → Bool
full_range e = eqb e.lowest 0 && eqb e.highest 65535

abbrev pub plain_bundle : Bundle → Bool
plain_bundle b = every plain_package b.packages

abbrev pub plain_connection : Connection → Bool
plain_connection c = of_listed (every full_range) c.filter.packages

-- every export has version 0, and every entry of a package part runs from 0 to 65535
abbrev pub unversioned : Model → Bool
unversioned m = every plain_bundle m.bundles && every plain_connection m.connections

-- the model has an image of version v
abbrev pub in_version : ℕ → Model → Bool
in_version v m = eqb v latest || (unversioned m && eqb v (older_version m.regions))
