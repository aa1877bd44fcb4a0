-- Document 01, "Graph G, and others", and C-15 of document 02: the text that the listing program prints for a file.
use Rattle.std.specs.Prelude.{◌≡◌, List, [], ◌∷◌, ◌++◌, map, ℕ, ◌+◌, ◌-◌, ◌*◌, eqb, length, replicate}
use Rattle.region_graph.specs.Lists.{concat_map}
use Rattle.region_graph.specs.Size.{most_bundles}
use Rattle.region_graph.specs.Refusals.{not_refused}
use Rattle.region_graph.specs.Lists.{pick, exists, keep}
use Rattle.region_graph.specs.Model.{Model, Package, Bundle}
use Rattle.region_graph.specs.Items.{is_package}
use Rattle.region_routes.specs.Chosen.{sees}
use Rattle.region_routes.specs.Hooks.{kind_number, item}
use Rattle.region_routes.specs.declared.Kind.{Kind}
use Rattle.text_lines.specs.Decimal.{space, newline, decimal_field}
use Rattle.region_archive.specs.File.{FileMeaning, read_model, read_number}
use Rattle.region_listing.specs.declared.listing.Text.{Text}

-- a number with a version joins those that are there, unless it is one of them
abbrev pub joined : List Package → Package → List Package
joined xs p = pick (exists (is_package p.number p.version) xs) xs (xs ++ (p ∷ []))

abbrev pub joined_all : List Package → List Package → List Package
joined_all xs [] = xs
joined_all xs (p ∷ ps) = joined_all (joined xs p) ps

-- the different ones of a list, each where it stands first
abbrev pub different : List Package → List Package
different ps = joined_all [] ps

-- what a bundle brings to its region, of a kind, each a number with a version; one that is no package has version 0
abbrev pub without_version : ℕ → Package
without_version n = record { number = n; version = 0 }

abbrev pub provided : Kind → Bundle → List Package
provided Kind.Bundle b = without_version b.location ∷ []
provided Kind.Package b = b.packages
provided Kind.Service b = map without_version b.services

-- the different ones of a kind that bundles hold
unfoldable pub held : Kind → List Bundle → List Package
held k bs = different (concat_map (provided k) bs)

-- how many different items of a kind a region sees
unfoldable pub seen_from : Model → Kind → ℕ → ℕ
seen_from m k r = length (keep (λ p. sees m (item (kind_number k) p.number p.version) r) (held k m.bundles))

abbrev pub line_of : ℕ → ℕ → ℕ → ℕ → ℕ → List ℕ
line_of location region bundles packages services =
    decimal_field location space ++ (decimal_field region space ++ (decimal_field bundles space ++ (decimal_field packages space ++ decimal_field services newline)))

-- location, region, and how many different bundles, packages and services are seen
abbrev pub line : Model → Bundle → List ℕ
line m b =
    line_of b.location b.region (seen_from m Kind.Bundle b.region) (seen_from m Kind.Package b.region) (seen_from m Kind.Service b.region)

-- asker region bundles packages services
unfoldable pub header : List ℕ
header =
    97 ∷ 115 ∷ 107 ∷ 101 ∷ 114 ∷ space
    ∷ 114 ∷ 101 ∷ 103 ∷ 105 ∷ 111 ∷ 110 ∷ space
    ∷ 98 ∷ 117 ∷ 110 ∷ 100 ∷ 108 ∷ 101 ∷ 115 ∷ space
    ∷ 112 ∷ 97 ∷ 99 ∷ 107 ∷ 97 ∷ 103 ∷ 101 ∷ 115 ∷ space
    ∷ 115 ∷ 101 ∷ 114 ∷ 118 ∷ 105 ∷ 99 ∷ 101 ∷ 115 ∷ newline
    ∷ []

-- the header, then a line for each bundle
unfoldable pub listing_text : Model → List ℕ
listing_text m = header ++ concat_map (line m) m.bundles

-- refused, and a space
unfoldable pub refused_word : List ℕ
refused_word = 114 ∷ 101 ∷ 102 ∷ 117 ∷ 115 ∷ 101 ∷ 100 ∷ space ∷ []

unfoldable pub refusal_text : ℕ → List ℕ
refusal_text n = refused_word ++ decimal_field n newline

-- the listing of a file that is accepted, or the number of its refusal
abbrev pub file_text : {s : List ℕ} → FileMeaning s → List ℕ
file_text f = pick (eqb (read_number f) not_refused) (listing_text (read_model f)) (refusal_text (read_number f))

-- the bytes of the header, the most bytes of a line (`line_few`), and the bytes that the longest text has
abbrev pub header_size : ℕ
header_size = 39

abbrev pub line_size : ℕ
line_size = 25

abbrev pub longest_text : ℕ
longest_text = header_size + most_bundles * line_size

-- the text in the first places, and 0 in each other place
unfoldable pub store_text : List ℕ → Text
store_text t = record { length = length t; bytes = t ++ replicate (longest_text - length t) 0 }

-- whatever the file means; each file means something (`file_meaning`)
abbrev pub ArchiveListed : List ℕ → Text → Type 0
ArchiveListed s r = (f : FileMeaning s) → r ≡ store_text (file_text f)
