-- How many bytes the pieces of an archive take at most: sums over the limits of document 01.
use Rattle.std.specs.Prelude.{ℕ, ◌+◌, ◌*◌}
use Rattle.region_graph.specs.Size.{regions, most_bundles, most_provided, most_listed}
use Rattle.big_endian.specs.Numbers.{longest}

-- a list of so many elements of some width, and a part of a filter
abbrev pub list_bound : ℕ → ℕ → ℕ
list_bound width most = 1 + most * width

abbrev pub part_bound : ℕ → ℕ
part_bound width = list_bound width most_listed

-- the records of a bundle and of a connection, each with its length, where a package, and an entry, has some width
abbrev pub bundle_bound : ℕ → ℕ
bundle_bound width = 2 + (4 + (1 + (list_bound width most_provided + list_bound 4 most_provided)))

abbrev pub connection_bound : ℕ → ℕ
connection_bound width = 2 + (1 + (1 + (part_bound 4 + (part_bound width + part_bound 4))))

-- rougher ones, which hold of every record: at most five fields, each no longer than a part of the widest elements
abbrev pub field_bound : ℕ
field_bound = part_bound longest

abbrev pub fields_bound : ℕ
fields_bound = 5 * field_bound

abbrev pub section_bound : ℕ
section_bound = 1 + most_bundles * (2 + fields_bound)

-- what follows the length: the regions with their count, and the two sections
abbrev pub body_bound : ℕ
body_bound = 1 + regions + 2 * section_bound
