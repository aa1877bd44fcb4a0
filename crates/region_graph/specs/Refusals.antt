-- The numbers of document 01's questions, and of those that requests of document 02 add, each named after the answer "no". The cases of
-- `Refusal` in src/refusals.rt go with them.
use Rattle.std.specs.Prelude.{ℕ, Result, Ok, Err}
use Rattle.region_graph.specs.declared.refusals.Refusal.{Refusal}

-- no question was answered no: the call is accepted
abbrev pub not_refused : ℕ
not_refused = 0

-- a region number is above 63
abbrev pub not_a_region : ℕ
not_a_region = 1

abbrev pub region_used : ℕ
region_used = 2

abbrev pub no_such_region : ℕ
no_such_region = 3

-- the two ends of a connection are one region
abbrev pub ends_equal : ℕ
ends_equal = 4

abbrev pub connected : ℕ
connected = 5

abbrev pub not_connected : ℕ
not_connected = 6

abbrev pub list_too_long : ℕ
list_too_long = 7

abbrev pub list_out_of_order : ℕ
list_out_of_order = 8

abbrev pub installed : ℕ
installed = 9

-- a connection that leaves the region names the location in its filter's bundle part
abbrev pub filtered : ℕ
filtered = 10

abbrev pub full : ℕ
full = 11

abbrev pub not_installed : ℕ
not_installed = 12

abbrev pub not_a_kind : ℕ
not_a_kind = 13

-- the output has too few places
abbrev pub no_place : ℕ
no_place = 14

-- fewer than 5 bytes, or a first byte that is no version
abbrev pub not_an_archive : ℕ
not_an_archive = 15

-- the length field is not the count of bytes after it
abbrev pub wrong_length : ℕ
wrong_length = 16

abbrev pub broken_layout : ℕ
broken_layout = 17

-- the bytes are not the layout of a name sheet, to the end
abbrev pub broken_sheet : ℕ
broken_sheet = 18

-- no entry of a name sheet has the kind and number
abbrev pub no_entry : ℕ
no_entry = 19

-- the lowest version of a package entry exceeds its highest
abbrev pub range_reversed : ℕ
range_reversed = 20

-- an export has a version other than 0, or a package entry does not run from 0 to 65535
abbrev pub has_versions : ℕ
has_versions = 21

-- the number of a refusal
abbrev pub refusal_number : Refusal → ℕ
refusal_number Refusal.NotARegion = not_a_region
refusal_number Refusal.RegionUsed = region_used
refusal_number Refusal.NoSuchRegion = no_such_region
refusal_number Refusal.EndsEqual = ends_equal
refusal_number Refusal.Connected = connected
refusal_number Refusal.NotConnected = not_connected
refusal_number Refusal.ListTooLong = list_too_long
refusal_number Refusal.ListOutOfOrder = list_out_of_order
refusal_number Refusal.Installed = installed
refusal_number Refusal.Filtered = filtered
refusal_number Refusal.Full = full
refusal_number Refusal.NotInstalled = not_installed
refusal_number Refusal.NotAKind = not_a_kind
refusal_number Refusal.NoPlace = no_place
refusal_number Refusal.NotAnArchive = not_an_archive
refusal_number Refusal.WrongLength = wrong_length
refusal_number Refusal.BrokenLayout = broken_layout
refusal_number Refusal.BrokenSheet = broken_sheet
refusal_number Refusal.NoEntry = no_entry
refusal_number Refusal.RangeReversed = range_reversed
refusal_number Refusal.HasVersions = has_versions

-- the number that an answer gives: 0, or that of its refusal
abbrev pub answer_number : {A : Type 0} → Result A Refusal → ℕ
answer_number (Ok a) = not_refused
answer_number (Err r) = refusal_number r
