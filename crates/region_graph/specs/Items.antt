-- Document 01, "Routes", and C-15 of document 02: items, which region holds one, and which connection passes one. Only the definitions of
-- `provides` and `passes` open an item. Its kind is 0 bundle, 1 package or 2 service; of any other kind nothing is held and nothing passes.
use Rattle.std.specs.Prelude.{Bool, false, ◌&&◌, ℕ, zero, suc, eqb, leb}
use Rattle.region_graph.specs.Lists.{exists, member}
use Rattle.region_graph.specs.Model.{Model, Package, PackageEntry, Bundle, Filter}
use Rattle.region_graph.specs.Calls.{of_listed}
use Rattle.region_graph.specs.declared.Item.{Item}

-- the package has the number and the version
abbrev pub is_package : ℕ → ℕ → Package → Bool
is_package n v p = eqb n p.number && eqb v p.version

-- the entry has the number, and the version lies between its two
abbrev pub entry_passes : ℕ → ℕ → PackageEntry → Bool
entry_passes n v e = eqb n e.number && (leb e.lowest v && leb v e.highest)

-- a bundle brings the item to its region, by its kind; the version counts for a package alone
abbrev pub provides_of : ℕ → Item → Bundle → Bool
provides_of zero i b = eqb i.number b.location
provides_of (suc zero) i b = exists (is_package i.number i.version) b.packages
provides_of (suc (suc zero)) i b = member i.number b.services
provides_of (suc (suc (suc k))) i b = false

abbrev pub provides : Item → Bundle → Bool
provides i b = provides_of i.kind i b

-- the filter's part of that kind has the item or is "all"
abbrev pub passes_of : ℕ → Item → Filter → Bool
passes_of zero i f = member i.number f.bundles
passes_of (suc zero) i f = of_listed (exists (entry_passes i.number i.version)) f.packages
passes_of (suc (suc zero)) i f = of_listed (member i.number) f.services
passes_of (suc (suc (suc k))) i f = false

abbrev pub passes : Item → Filter → Bool
passes i f = passes_of i.kind i f

-- region r holds the item
abbrev pub holds : Model → Item → ℕ → Bool
holds m i r = exists (λ b. eqb b.region r && provides i b) m.bundles

-- a connection from r to s passes the item
abbrev pub crosses : Model → Item → ℕ → ℕ → Bool
crosses m i r s = exists (λ c. (eqb c.source r && eqb c.target s) && passes i c.filter) m.connections
