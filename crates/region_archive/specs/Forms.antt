-- How the elements of a list stand in a file. An element is one number, its code: of a bundle location or a service the number itself, of an
-- exported package number * 2 ^ 16 + version, of an entry of a package part number * 2 ^ 32 + lowest * 2 ^ 16 + highest.
use Rattle.std.specs.Prelude.{◌≡◌, Bool, true, ◌&&◌, List, ℕ, ◌*◌, ◌/◌, ◌%◌, ◌^◌, ◌≤◌, ◌<◌, eqb, leb, ltb}
use Rattle.region_graph.specs.Lists.{pick}
use Rattle.region_graph.specs.Model.{Sorted}
use Rattle.big_endian.specs.Bytes.{big}
use Rattle.big_endian.specs.Numbers.{longest}
use Rattle.region_archive.specs.declared.forms.Form.{Form}
use Rattle.region_archive.specs.declared.forms.ListOf.{ListOf}
use Rattle.region_archive.specs.declared.record_fields.Section.{Section}

-- what a code has below this is not written, and does not count for the order of a list below that
abbrev pub scale : Form → ℕ
scale f = 2 ^ f.skipped

abbrev pub unit : Form → ℕ
unit f = 2 ^ f.lower

-- the bytes of an element: those of its code without what is not written
abbrev pub element_bytes : Form → ℕ → List ℕ
element_bytes f c = big f.width (c / scale f)

-- by which the elements of a list ascend
abbrev pub code_key : Form → ℕ → ℕ
code_key f c = c / unit f

abbrev pub code_before : Form → ℕ → ℕ → Bool
code_before f c d = ltb (code_key f c) (code_key f d)

-- below the unit, the high 16 bits are at most the low ones
abbrev pub lower_ordered : Form → ℕ → Bool
lower_ordered f c = leb (c % unit f / 65536) (c % unit f % 65536)

pub record CodeGood (f : Form) (c : ℕ) : Type 0 where
  pub small : c / scale f < 256 ^ f.width
  pub unwritten : c % scale f ≡ f.rest
  pub ordered : lower_ordered f c ≡ true

-- a set of at most so many codes
abbrev pub Coded : Form → ℕ → List ℕ → Type 0
Coded f most xs = Sorted (code_before f) (CodeGood f) most xs

-- a code may stand where keys are at least so high
abbrev pub code_next : Form → ℕ → ℕ → Bool
code_next f least c = leb least (code_key f c) && lower_ordered f c

pub record NextCode (f : Form) (least c : ℕ) : Type 0 where
  pub good : CodeGood f c
  pub high : least ≤ code_key f c

-- the codes of a form, and the keys that come after them, have 64 bits
pub record FormFits (f : Form) : Type 0 where
  pub wide : f.width ≤ longest
  pub skips : f.skipped < 64
  pub lowers : f.lower < 64
  pub scaled : 1 ≤ scale f
  pub rested : f.rest < scale f
  pub units : 1 ≤ unit f
  pub codes : 256 ^ f.width * scale f ≤ 2 ^ 64
  pub keys : 256 ^ f.width * scale f ≤ 2 ^ 63 * unit f

-- numbers
abbrev pub numbers_form : Form
numbers_form = record { width = 4; skipped = 0; rest = 0; lower = 0 }

-- packages with their versions, and without: version 0
abbrev pub packages_form : Form
packages_form = record { width = 6; skipped = 0; rest = 0; lower = 0 }

abbrev pub bare_packages_form : Form
bare_packages_form = record { width = 4; skipped = 16; rest = 0; lower = 0 }

-- entries with their versions, and without: versions 0 to 65535
abbrev pub entries_form : Form
entries_form = record { width = 8; skipped = 0; rest = 0; lower = 32 }

abbrev pub bare_entries_form : Form
bare_entries_form = record { width = 4; skipped = 32; rest = 65535; lower = 32 }

-- the form of a list by what it has
abbrev pub list_form : ListOf → Form
list_form ListOf.Numbers = numbers_form
list_form ListOf.Packages = packages_form
list_form ListOf.BarePackages = bare_packages_form
list_form ListOf.Entries = entries_form
list_form ListOf.BareEntries = bare_entries_form

-- the form of the list in a field of a record: packages are field 2 of a bundle, and entries field 3 of a connection; from version 3 on they
-- have their versions
unfoldable pub form_of : Section → ℕ → Form
form_of (Section.Bundles v) field = pick (eqb field 2) (pick (leb 3 v) packages_form bare_packages_form) numbers_form
form_of (Section.Connections v) field = pick (eqb field 3) (pick (leb 3 v) entries_form bare_entries_form) numbers_form
