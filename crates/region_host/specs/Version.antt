-- What a host asks before any other call: which interface the library has, and how many bytes the record.
use Rattle.std.specs.Prelude.{ℕ, ◌+◌, ◌*◌}
use Rattle.region_graph.specs.Size.{most_bundles, most_connections, most_provided, most_listed}

-- raised whenever a host must be compiled anew; WIMBORU_VERSION of include/wimboru.h goes with it
abbrev pub interface_version : ℕ
interface_version = 5

-- bytes of a location, a region or an item
abbrev pub number_size : ℕ
number_size = 4

-- bytes of a version
abbrev pub version_size : ℕ
version_size = 2

-- bytes of a count, and of the set of regions
abbrev pub count_size : ℕ
count_size = 8

-- a count, and places of a size
abbrev pub list_size : ℕ → ℕ → ℕ
list_size places size = count_size + places * size

-- location and region; packages, each a number and a version; services
abbrev pub bundle_size : ℕ
bundle_size = 2 * number_size + list_size most_provided (number_size + version_size) + list_size most_provided number_size

-- source and target; bundle part and service part; package part, each entry a number and two versions
abbrev pub connection_size : ℕ
connection_size = 2 * number_size + 2 * list_size most_listed number_size + list_size most_listed (number_size + 2 * version_size)

-- bytes of the record: regions, bundles and connections
abbrev pub record_size : ℕ
record_size = count_size + list_size most_bundles bundle_size + list_size most_connections connection_size
