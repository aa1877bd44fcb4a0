-- Document 01, "Graph G, and others": the joint table G1 to G10, with G10 as C-13 of document 02 has it, and G1 and G2 as C-14 has them;
-- then the case that C-14 tells, and cases of C-15. A row is a list of calls from nothing and what is shown of the model that they give.
use Rattle.std.specs.Prelude.{◌≡◌, List, [], ◌∷◌, map, ℕ, suc, length, replicate}
use Rattle.region_graph.specs.Lists.{All}
use Rattle.region_graph.specs.Model.{Package, PackageEntry, Part, nothing}
use Rattle.region_graph.specs.Calls.{Call, run, numbers}
use Rattle.region_graph.specs.declared.Item.{Item}
use Rattle.region_routes.specs.Chosen.{NoRouteFor, BestFor}
use Rattle.region_routes.specs.Hooks.{item}
use Rattle.region_routes.specs.declared.resolver.Candidate.{Candidate}
use Rattle.region_routes.specs.Resolve.{candidates}
use Rattle.demands.specs.Claim.{Selected, Offered, InstalledWhere}

pub data Claim : Type 0 where
  -- resolve for the bundle at a location, on these candidates, gives those
  resolves : ℕ → List Candidate → List Candidate → Claim
  -- the route from the bundle at a location to an item, and its count of connections
  routes : ℕ → Item → List ℕ → ℕ → Claim
  -- an item is hidden from the bundle at a location
  hides : ℕ → Item → Claim

abbrev pub Says : List Call → Claim → Type 0
Says cs (resolves l xs ys) = let m = run nothing cs in InstalledWhere m l (λ r. Selected (λ c. Offered m c r) xs ys)
Says cs (routes l i p n) = let m = run nothing cs in InstalledWhere m l (λ r. BestFor m i r p × (length p ≡ suc n))
Says cs (hides l i) = let m = run nothing cs in InstalledWhere m l (NoRouteFor m i)

-- calls, the number of each, and claims about the model that they give
pub record Row : Type 0 where
  pub calls : List Call
  pub returned : List ℕ
  pub claims : List Claim

abbrev pub RowHolds : Row → Type 0
RowHolds w = (numbers nothing w.calls ≡ w.returned) × All (Says w.calls) w.claims

-- a bundle with packages and services, and connections that pass packages, services or bundles
abbrev pub bundle_of : ℕ → ℕ → List Package → List ℕ → Call
bundle_of l r ps ss = Call.install (record { location = l; region = r; packages = ps; services = ss })

abbrev pub passing : ℕ → ℕ → List ℕ → Part PackageEntry → Part ℕ → Call
passing r s bs ps ss = Call.connect (record { source = r; target = s; filter = record { bundles = bs; packages = ps; services = ss } })

-- a package of a version, and an entry with a lowest and a highest version
abbrev pub edition : ℕ → ℕ → Package
edition n v = record { number = n; version = v }

abbrev pub entry_between : ℕ → ℕ → ℕ → PackageEntry
entry_between n l h = record { number = n; lowest = l; highest = h }

-- packages of version 0, and a package part whose entries pass every version
abbrev pub plain : List ℕ → List Package
plain ns = map (λ n. edition n 0) ns

abbrev pub ranges : List ℕ → Part PackageEntry
ranges ns = Part.listed (map (λ n. entry_between n 0 65535) ns)

abbrev pub graph_g : List Call
graph_g =
    Call.add_region 0
    ∷ Call.add_region 1
    ∷ Call.add_region 2
    ∷ bundle_of 10 0 [] []
    ∷ bundle_of 20 1 (plain (1 ∷ [])) []
    ∷ bundle_of 30 2 (plain (1 ∷ 2 ∷ 3 ∷ [])) []
    ∷ passing 0 1 [] (ranges (1 ∷ 2 ∷ [])) (Part.listed [])
    ∷ passing 1 2 [] (ranges (1 ∷ 3 ∷ [])) (Part.listed [])
    ∷ []

-- the packages 1, 2 and 3 of exporter 30
abbrev pub packages_of_30 : List Candidate
packages_of_30 = candidates (30 ∷ 30 ∷ 30 ∷ []) (1 ∷ 2 ∷ 3 ∷ []) (0 ∷ 0 ∷ 0 ∷ [])

-- regions connected both ways, and a diamond
abbrev pub cycle : List Call
cycle =
    Call.add_region 3
    ∷ Call.add_region 4
    ∷ bundle_of 10 3 [] []
    ∷ bundle_of 20 4 [] []
    ∷ passing 3 4 [] (Part.listed []) (Part.listed (77 ∷ []))
    ∷ passing 4 3 [] (Part.listed []) (Part.listed (77 ∷ []))
    ∷ []

abbrev pub diamond : List Call
diamond =
    Call.add_region 0
    ∷ Call.add_region 1
    ∷ Call.add_region 2
    ∷ Call.add_region 3
    ∷ bundle_of 10 0 [] []
    ∷ bundle_of 20 3 [] (5 ∷ [])
    ∷ passing 0 1 [] (Part.listed []) Part.everything
    ∷ passing 0 2 [] (Part.listed []) Part.everything
    ∷ passing 1 3 [] (Part.listed []) Part.everything
    ∷ passing 2 3 [] (Part.listed []) Part.everything
    ∷ []

-- package 1 in a region that region 0 is connected to, and in one that it is not
abbrev pub two_exporters : List Call
two_exporters =
    Call.add_region 0
    ∷ Call.add_region 1
    ∷ Call.add_region 9
    ∷ bundle_of 10 0 [] []
    ∷ bundle_of 20 1 (plain (1 ∷ [])) []
    ∷ bundle_of 90 9 (plain (1 ∷ [])) []
    ∷ passing 0 1 [] (ranges (1 ∷ [])) (Part.listed [])
    ∷ []

-- three versions of a package, of which a connection passes one
abbrev pub editions : List Call
editions =
    Call.add_region 0
    ∷ Call.add_region 1
    ∷ bundle_of 10 0 [] []
    ∷ bundle_of 20 1 (edition 5 8 ∷ edition 5 9 ∷ edition 5 10 ∷ []) []
    ∷ passing 0 1 [] (Part.listed (entry_between 5 9 9 ∷ [])) (Part.listed [])
    ∷ passing 1 0 [] Part.everything (Part.listed [])
    ∷ []

abbrev pub about_editions : List Claim
about_editions =
    hides 10 (item 1 5 8)
    ∷ routes 10 (item 1 5 9) (0 ∷ 1 ∷ []) 1
    ∷ hides 10 (item 1 5 10)
    ∷ resolves 10 (candidates (20 ∷ 20 ∷ 20 ∷ []) (5 ∷ 5 ∷ 5 ∷ []) (8 ∷ 9 ∷ 10 ∷ [])) (candidates (20 ∷ []) (5 ∷ []) (9 ∷ []))
    ∷ []

abbrev pub rows : List Row
rows =
    -- G1 to G6
    record { calls = graph_g; returned = replicate 8 0; claims = resolves 10 packages_of_30 (candidates (30 ∷ []) (1 ∷ []) (0 ∷ [])) ∷ [] }
    ∷ record { calls = graph_g; returned = replicate 8 0; claims = resolves 20 packages_of_30 (candidates (30 ∷ 30 ∷ []) (1 ∷ 3 ∷ []) (0 ∷ 0 ∷ [])) ∷ [] }
    ∷ record { calls = graph_g; returned = replicate 8 0; claims = routes 10 (item 1 1 0) (0 ∷ 1 ∷ []) 1 ∷ [] }
    ∷ record { calls = graph_g; returned = replicate 8 0; claims = hides 10 (item 1 3 0) ∷ [] }
    ∷ record { calls = graph_g; returned = replicate 8 0; claims = hides 20 (item 0 30 0) ∷ [] }
    ∷ record { calls = graph_g; returned = replicate 8 0; claims = routes 10 (item 0 10 0) (0 ∷ []) 0 ∷ [] }
    -- G7
    ∷ record {
      calls = cycle;
      returned = replicate 6 0;
      claims = hides 10 (item 2 77 0) ∷ hides 20 (item 2 77 0) ∷ [];
    }
    -- G8
    ∷ record {
      calls = diamond;
      returned = replicate 10 0;
      claims = routes 10 (item 2 5 0) (0 ∷ 1 ∷ 3 ∷ []) 2 ∷ [];
    }
    -- G9
    ∷ record {
      calls =
          Call.add_region 1
          ∷ Call.add_region 2
          ∷ bundle_of 20 1 [] []
          ∷ passing 1 2 (20 ∷ []) (Part.listed []) (Part.listed [])
          ∷ Call.uninstall 20
          ∷ bundle_of 20 1 [] []
          ∷ [];
      returned = 0 ∷ 0 ∷ 0 ∷ 0 ∷ 0 ∷ 10 ∷ [];
      claims = [];
    }
    -- G10
    ∷ record { calls = Call.add_region 63 ∷ Call.add_region 64 ∷ []; returned = 0 ∷ 1 ∷ []; claims = [] }
    -- C-14's case
    ∷ record {
      calls = two_exporters;
      returned = replicate 7 0;
      claims = resolves 10 (candidates (20 ∷ 90 ∷ 20 ∷ []) (1 ∷ 1 ∷ 1 ∷ []) (0 ∷ 0 ∷ 0 ∷ [])) (candidates (20 ∷ 20 ∷ []) (1 ∷ 1 ∷ []) (0 ∷ 0 ∷ [])) ∷ [];
    }
    -- C-15: an entry passes the versions between its two; resolve takes the version that the exporter has
    ∷ record {
      calls = editions;
      returned = replicate 6 0;
      claims = about_editions;
    }
    -- C-15: a reversed range, after 8 and before 11; two entries of one number; a package twice
    ∷ record {
      calls =
          Call.add_region 0
          ∷ Call.add_region 1
          ∷ passing 0 1 [] (Part.listed (entry_between 5 9 8 ∷ [])) (Part.listed [])
          ∷ passing 0 1 [] (Part.listed (entry_between 5 9 8 ∷ entry_between 4 0 0 ∷ [])) (Part.listed [])
          ∷ passing 0 1 [] (Part.listed (entry_between 5 0 9 ∷ entry_between 5 10 20 ∷ [])) (Part.listed [])
          ∷ bundle_of 10 0 (edition 1 7 ∷ edition 1 7 ∷ []) []
          ∷ bundle_of 10 0 (edition 1 0 ∷ edition 1 7 ∷ edition 2 0 ∷ []) []
          ∷ [];
      returned = 0 ∷ 0 ∷ 20 ∷ 8 ∷ 8 ∷ 8 ∷ 0 ∷ [];
      claims = [];
    }
    ∷ []

-- graph G's image, all 108 bytes
abbrev pub g_image : List ℕ
g_image =
    0x03 ∷ 0x00 ∷ 0x00 ∷ 0x00 ∷ 0x67 ∷ 0x03 ∷ 0x00 ∷ 0x01 ∷ 0x02 ∷ 0x03 ∷ 0x00 ∷ 0x07 ∷ 0x00 ∷ 0x00 ∷ 0x00 ∷ 0x0A
    ∷ 0x00 ∷ 0x00 ∷ 0x00 ∷ 0x00 ∷ 0x0D ∷ 0x00 ∷ 0x00 ∷ 0x00 ∷ 0x14 ∷ 0x01 ∷ 0x01 ∷ 0x00 ∷ 0x00 ∷ 0x00 ∷ 0x01 ∷ 0x00
    ∷ 0x00 ∷ 0x00 ∷ 0x00 ∷ 0x19 ∷ 0x00 ∷ 0x00 ∷ 0x00 ∷ 0x1E ∷ 0x02 ∷ 0x03 ∷ 0x00 ∷ 0x00 ∷ 0x00 ∷ 0x01 ∷ 0x00 ∷ 0x00
    ∷ 0x00 ∷ 0x00 ∷ 0x00 ∷ 0x02 ∷ 0x00 ∷ 0x00 ∷ 0x00 ∷ 0x00 ∷ 0x00 ∷ 0x03 ∷ 0x00 ∷ 0x00 ∷ 0x00 ∷ 0x02 ∷ 0x00 ∷ 0x15
    ∷ 0x00 ∷ 0x01 ∷ 0x00 ∷ 0x02 ∷ 0x00 ∷ 0x00 ∷ 0x00 ∷ 0x01 ∷ 0x00 ∷ 0x00 ∷ 0xFF ∷ 0xFF ∷ 0x00 ∷ 0x00 ∷ 0x00 ∷ 0x02
    ∷ 0x00 ∷ 0x00 ∷ 0xFF ∷ 0xFF ∷ 0x00 ∷ 0x00 ∷ 0x15 ∷ 0x01 ∷ 0x02 ∷ 0x00 ∷ 0x02 ∷ 0x00 ∷ 0x00 ∷ 0x00 ∷ 0x01 ∷ 0x00
    ∷ 0x00 ∷ 0xFF ∷ 0xFF ∷ 0x00 ∷ 0x00 ∷ 0x00 ∷ 0x03 ∷ 0x00 ∷ 0x00 ∷ 0xFF ∷ 0xFF ∷ 0x00 ∷ []

-- its older image, all 84 bytes
abbrev pub g_older_image : List ℕ
g_older_image =
    0x01 ∷ 0x00 ∷ 0x00 ∷ 0x00 ∷ 0x4F ∷ 0x03 ∷ 0x00 ∷ 0x01 ∷ 0x02 ∷ 0x03 ∷ 0x00 ∷ 0x07 ∷ 0x00 ∷ 0x00 ∷ 0x00 ∷ 0x0A
    ∷ 0x00 ∷ 0x00 ∷ 0x00 ∷ 0x00 ∷ 0x0B ∷ 0x00 ∷ 0x00 ∷ 0x00 ∷ 0x14 ∷ 0x01 ∷ 0x01 ∷ 0x00 ∷ 0x00 ∷ 0x00 ∷ 0x01 ∷ 0x00
    ∷ 0x00 ∷ 0x13 ∷ 0x00 ∷ 0x00 ∷ 0x00 ∷ 0x1E ∷ 0x02 ∷ 0x03 ∷ 0x00 ∷ 0x00 ∷ 0x00 ∷ 0x01 ∷ 0x00 ∷ 0x00 ∷ 0x00 ∷ 0x02
    ∷ 0x00 ∷ 0x00 ∷ 0x00 ∷ 0x03 ∷ 0x00 ∷ 0x02 ∷ 0x00 ∷ 0x0D ∷ 0x00 ∷ 0x01 ∷ 0x00 ∷ 0x02 ∷ 0x00 ∷ 0x00 ∷ 0x00 ∷ 0x01
    ∷ 0x00 ∷ 0x00 ∷ 0x00 ∷ 0x02 ∷ 0x00 ∷ 0x00 ∷ 0x0D ∷ 0x01 ∷ 0x02 ∷ 0x00 ∷ 0x02 ∷ 0x00 ∷ 0x00 ∷ 0x00 ∷ 0x01 ∷ 0x00
    ∷ 0x00 ∷ 0x00 ∷ 0x03 ∷ 0x00 ∷ []

-- two regions above 15, services, a bundle part, and parts that pass everything; the package has this version, and its entry these bounds
abbrev pub lab : ℕ → ℕ → ℕ → List Call
lab version lowest highest =
    Call.add_region 16
    ∷ Call.add_region 63
    ∷ bundle_of 0x102 16 (edition 5 version ∷ []) (7 ∷ [])
    ∷ bundle_of 0x01020304 63 [] (8 ∷ 9 ∷ [])
    ∷ passing 16 63 (0x01020304 ∷ []) (Part.listed (entry_between 5 lowest highest ∷ [])) Part.everything
    ∷ passing 63 16 [] Part.everything (Part.listed (7 ∷ []))
    ∷ []

-- the image with version 513 and an entry from 256 to 513, all 76 bytes
abbrev pub lab_image : List ℕ
lab_image =
    0x03 ∷ 0x00 ∷ 0x00 ∷ 0x00 ∷ 0x47 ∷ 0x02 ∷ 0x10 ∷ 0x3F ∷ 0x02 ∷ 0x00 ∷ 0x11 ∷ 0x00 ∷ 0x00 ∷ 0x01 ∷ 0x02 ∷ 0x10
    ∷ 0x01 ∷ 0x00 ∷ 0x00 ∷ 0x00 ∷ 0x05 ∷ 0x02 ∷ 0x01 ∷ 0x01 ∷ 0x00 ∷ 0x00 ∷ 0x00 ∷ 0x07 ∷ 0x00 ∷ 0x0F ∷ 0x01 ∷ 0x02
    ∷ 0x03 ∷ 0x04 ∷ 0x3F ∷ 0x00 ∷ 0x02 ∷ 0x00 ∷ 0x00 ∷ 0x00 ∷ 0x08 ∷ 0x00 ∷ 0x00 ∷ 0x00 ∷ 0x09 ∷ 0x02 ∷ 0x00 ∷ 0x11
    ∷ 0x10 ∷ 0x3F ∷ 0x01 ∷ 0x01 ∷ 0x02 ∷ 0x03 ∷ 0x04 ∷ 0x01 ∷ 0x00 ∷ 0x00 ∷ 0x00 ∷ 0x05 ∷ 0x01 ∷ 0x00 ∷ 0x02 ∷ 0x01
    ∷ 0xFF ∷ 0x00 ∷ 0x09 ∷ 0x3F ∷ 0x10 ∷ 0x00 ∷ 0xFF ∷ 0x01 ∷ 0x00 ∷ 0x00 ∷ 0x00 ∷ 0x07 ∷ []

-- the older image, of version 2, with version 0 and an entry from 0 to 65535, all 70 bytes
abbrev pub lab_older_image : List ℕ
lab_older_image =
    0x02 ∷ 0x00 ∷ 0x00 ∷ 0x00 ∷ 0x41 ∷ 0x02 ∷ 0x10 ∷ 0x3F ∷ 0x02 ∷ 0x00 ∷ 0x0F ∷ 0x00 ∷ 0x00 ∷ 0x01 ∷ 0x02 ∷ 0x10
    ∷ 0x01 ∷ 0x00 ∷ 0x00 ∷ 0x00 ∷ 0x05 ∷ 0x01 ∷ 0x00 ∷ 0x00 ∷ 0x00 ∷ 0x07 ∷ 0x00 ∷ 0x0F ∷ 0x01 ∷ 0x02 ∷ 0x03 ∷ 0x04
    ∷ 0x3F ∷ 0x00 ∷ 0x02 ∷ 0x00 ∷ 0x00 ∷ 0x00 ∷ 0x08 ∷ 0x00 ∷ 0x00 ∷ 0x00 ∷ 0x09 ∷ 0x02 ∷ 0x00 ∷ 0x0D ∷ 0x10 ∷ 0x3F
    ∷ 0x01 ∷ 0x01 ∷ 0x02 ∷ 0x03 ∷ 0x04 ∷ 0x01 ∷ 0x00 ∷ 0x00 ∷ 0x00 ∷ 0x05 ∷ 0xFF ∷ 0x00 ∷ 0x09 ∷ 0x3F ∷ 0x10 ∷ 0x00
    ∷ 0xFF ∷ 0x01 ∷ 0x00 ∷ 0x00 ∷ 0x00 ∷ 0x07 ∷ []

-- 10 0 1 1 0, 20 1 1 2 0 and 30 2 1 3 0, each on a line
abbrev pub lines_of_g : List ℕ
lines_of_g =
    49 ∷ 48 ∷ 32 ∷ 48 ∷ 32 ∷ 49 ∷ 32 ∷ 49 ∷ 32 ∷ 48 ∷ 10
    ∷ 50 ∷ 48 ∷ 32 ∷ 49 ∷ 32 ∷ 49 ∷ 32 ∷ 50 ∷ 32 ∷ 48 ∷ 10
    ∷ 51 ∷ 48 ∷ 32 ∷ 50 ∷ 32 ∷ 49 ∷ 32 ∷ 51 ∷ 32 ∷ 48 ∷ 10
    ∷ []
