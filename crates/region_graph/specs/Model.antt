-- What document 01 calls the plain record: regions R, bundles B and connections F, three sets kept in ascending order.
use Rattle.std.specs.Prelude.{◌≡◌, Bool, true, false, ◌&&◌, ◌||◌, List, [], ◌∷◌, ℕ, ◌<◌, ◌≤◌, ◌^◌, ltb, leb, eqb, length}
use Rattle.region_graph.specs.Size.{regions, most_bundles, most_connections, most_provided, most_listed}
use Rattle.region_graph.specs.Lists.{All, ascends, member}

-- C-15: a package is a number and a version
pub record Package : Type 0 where
  pub number : ℕ
  pub version : ℕ

-- an entry of a filter's package part: a number with a lowest and a highest version, both included
pub record PackageEntry : Type 0 where
  pub number : ℕ
  pub lowest : ℕ
  pub highest : ℕ

-- the packages, and the entries, whose parts stand at equal places of lists: the shortest list counts them
abbrev pub packages : List ℕ → List ℕ → List Package
packages [] vs = []
packages (n ∷ ns) [] = []
packages (n ∷ ns) (v ∷ vs) = record { number = n; version = v } ∷ packages ns vs

abbrev pub entries : List ℕ → List ℕ → List ℕ → List PackageEntry
entries [] ls hs = []
entries (n ∷ ns) [] hs = []
entries (n ∷ ns) (l ∷ ls) [] = []
entries (n ∷ ns) (l ∷ ls) (h ∷ hs) = record { number = n; lowest = l; highest = h } ∷ entries ns ls hs

pub record Bundle : Type 0 where
  pub location : ℕ
  pub region : ℕ
  pub packages : List Package
  pub services : List ℕ

-- a package or a service part: what is listed, or everything (document 01: the sign "all")
pub data Part (A : Type 0) : Type 0 where
  listed : List A → Part A
  everything : Part A

pub record Filter : Type 0 where
  pub bundles : List ℕ
  pub packages : Part PackageEntry
  pub services : Part ℕ

-- the source imports from the target what the filter passes
pub record Connection : Type 0 where
  pub source : ℕ
  pub target : ℕ
  pub filter : Filter

pub record Model : Type 0 where
  pub regions : List ℕ
  pub bundles : List Bundle
  pub connections : List Connection

abbrev pub nothing : Model
nothing = record { regions = []; bundles = []; connections = [] }

-- the orders in which packages, by number, then version, and entries, one for a number, are listed
abbrev pub package_before : Package → Package → Bool
package_before p q = ltb p.number q.number || (eqb p.number q.number && ltb p.version q.version)

abbrev pub entry_before : PackageEntry → PackageEntry → Bool
entry_before d e = ltb d.number e.number

-- the lowest version is at most the highest
abbrev pub ordered : PackageEntry → Bool
ordered e = leb e.lowest e.highest

-- the orders in which bundles and connections are kept
abbrev pub bundle_before : Bundle → Bundle → Bool
bundle_before a b = ltb a.location b.location

abbrev pub connection_before : Connection → Connection → Bool
connection_before a b = ltb a.source b.source || (eqb a.source b.source && ltb a.target b.target)

-- a number of 32 bits, and a version, of 16
abbrev pub Word : ℕ → Type 0
Word n = n < 2 ^ 32

abbrev pub Version : ℕ → Type 0
Version n = n < 2 ^ 16

pub record PackageFits (p : Package) : Type 0 where
  pub number : Word p.number
  pub version : Version p.version

pub record EntryFits (e : PackageEntry) : Type 0 where
  pub number : Word e.number
  pub lowest : Version e.lowest
  pub highest : Version e.highest

pub record LegalEntry (e : PackageEntry) : Type 0 where
  pub fits : EntryFits e
  pub order : ordered e ≡ true

-- a set of at most so many elements, each good, in strictly ascending order
pub record Sorted {A : Type 0} (before : A → A → Bool) (Good : A → Type 0) (most : ℕ) (xs : List A) : Type 0 where
  pub few : length xs ≤ most
  pub each : All Good xs
  pub ascend : ascends before xs ≡ true

-- a set of at most so many numbers
abbrev pub Numbered : ℕ → List ℕ → Type 0
Numbered most xs = Sorted ltb Word most xs

-- a part whose list is a set
abbrev pub SortedPart : {A : Type 0} → (A → A → Bool) → (A → Type 0) → Part A → Type 0
SortedPart before Good (Part.listed xs) = Sorted before Good most_listed xs
SortedPart before Good Part.everything = Unit {0}

pub record LegalBundle (rs : List ℕ) (b : Bundle) : Type 0 where
  pub location : Word b.location
  pub region : member b.region rs ≡ true
  pub packages : Sorted package_before PackageFits most_provided b.packages
  pub services : Numbered most_provided b.services

pub record LegalFilter (f : Filter) : Type 0 where
  pub bundles : Numbered most_listed f.bundles
  pub packages : SortedPart entry_before LegalEntry f.packages
  pub services : SortedPart ltb Word f.services

pub record LegalConnection (rs : List ℕ) (c : Connection) : Type 0 where
  pub source : member c.source rs ≡ true
  pub target : member c.target rs ≡ true
  pub differ : eqb c.source c.target ≡ false
  pub filter : LegalFilter c.filter

-- all that document 01, and C-15 of packages, say of R, B and F
pub record Legal (m : Model) : Type 0 where
  pub regions_legal : Sorted ltb (λ r. r < regions) regions m.regions
  pub bundles_legal : Sorted bundle_before (LegalBundle m.regions) most_bundles m.bundles
  pub connections_legal : Sorted connection_before (LegalConnection m.regions) most_connections m.connections
