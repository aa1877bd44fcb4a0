-- Document 01, "The archive" and questions 15 to 17, and C-13 and C-15 of document 02: what a file means, and the number that it is read with.
use Rattle.std.specs.Prelude.{◌≡◌, Bool, true, false, ◌&&◌, List, [], ◌∷◌, ◌++◌, ℕ, ◌+◌, ◌*◌, ◌-◌, eqb, leb, length, get_or}
use Rattle.region_graph.specs.Refusals.{not_an_archive, wrong_length, broken_layout}
use Rattle.region_graph.specs.Model.{Model, Legal, nothing}
use Rattle.region_graph.specs.Calls.{Question, ask, first_no}
use Rattle.region_archive.specs.Image.{latest, image_in, in_version}

-- a file is the image, of some version, of a legal model that has one, or of none
pub data FileMeaning (bytes : List ℕ) : Type 0 where
  means : (v : ℕ) (m : Model) → Legal m → in_version v m ≡ true → image_in v m ≡ bytes → FileMeaning bytes
  means_none : ((v : ℕ) (m : Model) → Legal m → in_version v m ≡ true → image_in v m ≡ bytes → ⊥) → FileMeaning bytes

abbrev pub is_image : {bytes : List ℕ} → FileMeaning bytes → Bool
is_image (means v m l h e) = true
is_image (means_none n) = false

-- the three sets that a read gives: those of the model, or empty ones
abbrev pub read_model : {bytes : List ℕ} → FileMeaning bytes → Model
read_model (means v m l h e) = m
read_model (means_none n) = nothing

-- the versions from this to the latest are read
abbrev pub oldest : ℕ
oldest = 1

-- at least 5 bytes, the first being a version from `low` to `high`
abbrev pub opens : ℕ → ℕ → List ℕ → Bool
opens low high s = leb 5 (length s) && (leb low (get_or s 0 0) && leb (get_or s 0 0) high)

-- bytes 1 to 4, as a number
abbrev pub length_field : List ℕ → ℕ
length_field s = get_or s 1 0 * 16777216 + get_or s 2 0 * 65536 + get_or s 3 0 * 256 + get_or s 4 0

-- the questions about the front of a file, and about all of it
abbrev pub front_questions : ℕ → ℕ → List ℕ → List Question
front_questions low high s =
    ask not_an_archive (opens low high s)
    ∷ ask wrong_length (eqb (length_field s) (length s - 5))
    ∷ []

abbrev pub read_questions : {s : List ℕ} → FileMeaning s → List Question
read_questions {s} f = front_questions oldest latest s ++ ask broken_layout (is_image f) ∷ []

-- the number that a read returns: 0 when the file is accepted
abbrev pub read_number : {s : List ℕ} → FileMeaning s → ℕ
read_number f = first_no (read_questions f)
