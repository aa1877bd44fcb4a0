-- The limits of document 01, and of C-13 of document 02 for regions. The constants of src/size.rt go with them.
use Rattle.std.specs.Prelude.{ℕ}

-- region numbers are below this
abbrev pub regions : ℕ
regions = 64

abbrev pub most_bundles : ℕ
most_bundles = 64

abbrev pub most_connections : ℕ
most_connections = 48

-- packages, and services, of one bundle
abbrev pub most_provided : ℕ
most_provided = 8

-- numbers in one part of a filter
abbrev pub most_listed : ℕ
most_listed = 16

-- the count of a part that is everything: the archive's sign
abbrev pub everything_sign : ℕ
everything_sign = 255
