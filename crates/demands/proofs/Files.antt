-- Files by their bytes, computed: an image of version 3 and one of version 2, with services, a bundle part and parts that pass everything, which
-- are read as their graph; back of the first, which has versions; and archive queries, most of them of G's image.
use mathlib.Core.Path.{◌≡◌, refl, ap}
use mathlib.Core.Bool.{true}
use mathlib.Core.List.{List, [], ◌∷◌, ◌++◌}
use Prim.Native.Nat.{ℕ, suc}
use native.Mathlib.Omega.{arith}
use lib.ListN.{length, drop, get_or}
use borrow.Author.Rules.{rules}
use Rattle.region_graph.specs.Refusals.{not_refused, not_installed, not_a_kind, not_an_archive, wrong_length, broken_layout, has_versions}
use Rattle.region_graph.specs.Lists.{All}
use Rattle.region_graph.specs.Model.{Bundle, Connection, Model, nothing, LegalBundle, LegalConnection, Legal}
use Rattle.region_graph.specs.Calls.{run}
use Rattle.region_graph.specs.Record.{meaning}
use Rattle.region_graph.specs.declared.Graph.{Graph}
use Rattle.region_graph.proofs.Lists.{false_true}
use Rattle.region_graph.proofs.Legal.{Words}
use Rattle.region_routes.specs.Chosen.{chosen_by, chosen}
use Rattle.region_archive.specs.Image.{latest, body_in, image_in, image, older_version, older_image, in_version}
use Rattle.region_archive.specs.File.{FileMeaning, means, means_none}
use Rattle.region_archive.specs.Promise.{seen_number, hidden_number, Written}
use Rattle.region_archive.proofs.Versions.{older_in}
use Rattle.region_archive.proofs.Meaning.{file_meaning}
use Rattle.demands.specs.Interface.{Interface}
use Rattle.demands.specs.RoundTrips.{Converting, RoundTrips}
use Rattle.demands.specs.JointTable.{graph_g, g_image, lab, lab_image, lab_older_image}
use Rattle.demands.proofs.Inverse.{image_accepted}
use Rattle.demands.proofs.Meets.{Meets}
use Rattle.demands.proofs.Rows.{legal, words_g}
use Rattle.demands.proofs.GraphG.{image_of_g}

abbrev versioned : Model
versioned = run nothing (lab 513 256 513)

abbrev plain : Model
plain = run nothing (lab 0 0 65535)

words_versioned : All Words (lab 513 256 513)
words_versioned = search rules depth 30 fits 4000

words_plain : All Words (lab 0 0 65535)
words_plain = search rules depth 30 fits 4000

pub image_of_lab : image versioned ≡ lab_image
unfolding image_in
image_of_lab = refl

pub older_image_of_lab : older_image plain ≡ lab_older_image
unfolding image_in older_version
older_image_of_lab = refl

abbrev g_means : FileMeaning g_image
g_means = means latest (run nothing graph_g) (legal graph_g words_g) refl image_of_g

-- the file of the empty graph with its last byte changed is no image: with no regions there are no bundles and no connections
abbrev not_empty : List ℕ
not_empty = 0x01 ∷ 0x00 ∷ 0x00 ∷ 0x00 ∷ 0x03 ∷ 0x00 ∷ 0x00 ∷ 0x01 ∷ []

no_image : (v : ℕ) (m : Model) → Legal m → in_version v m ≡ true → image_in v m ≡ not_empty → ⊥
unfolding image_in
no_image v m l h e = go m.regions m.bundles m.connections l.bundles_legal.each l.connections_legal.each (ap (drop 5) e)
  where
    go : (rs : List ℕ) (bs : List Bundle) (cs : List Connection) → All (LegalBundle rs) bs → All (LegalConnection rs) cs
        → body_in v (record { regions = rs; bundles = bs; connections = cs }) ≡ 0x00 ∷ 0x00 ∷ 0x01 ∷ [] → ⊥
    go (r ∷ rs) bs cs b d q = let z : ◌≡◌ {A = ℕ} (suc (length rs)) 0 = ap (λ (s : List ℕ). get_or s 0 0) q in absurd (omega (arith, z))
    go [] (x ∷ bs) cs b d q = false_true b.0.region
    go [] [] (x ∷ cs) b d q = false_true d.0.source
    go [] [] [] b d q = let z : ◌≡◌ {A = ℕ} 0 1 = ap (λ (s : List ℕ). get_or s 2 0) q in absurd (omega arith)

-- what a call says, of each interface whose calls meet the promises
module _ {c : Interface} (t : Meets c) where
  module _ {old h : Graph} {n : ℕ} where
    pub lab_read : c.reads lab_image old n h → (n ≡ not_refused) × (meaning h ≡ versioned)
    lab_read p = image_accepted (t.reads p) latest versioned (legal (lab 513 256 513) words_versioned) (refl, image_of_lab)

    pub older_lab_read : c.reads lab_older_image old n h → (n ≡ not_refused) × (meaning h ≡ plain)
    older_lab_read p =
        image_accepted (t.reads p) (older_version plain.regions) plain (legal (lab 0 0 65535) words_plain) (older_in plain refl refl, older_image_of_lab)

  -- bundle 10 of G sees package 1 and not package 3; there is no bundle 40, and no kind 3
  module _ {v : ℕ} where
    pub query_seen : c.asks g_image 10 1 1 0 v → v ≡ seen_number
    unfolding chosen chosen_by
    query_seen p = t.asks p g_means

    pub query_hidden : c.asks g_image 10 1 3 0 v → v ≡ hidden_number
    unfolding chosen chosen_by
    query_hidden p = t.asks p g_means

    -- in the order of the questions: 15 and 16; 16 and 17; 17 and 12; 12 and 13; 13
    pub query_no_archive : c.asks (0x04 ∷ g_image) 40 3 1 0 v → v ≡ not_an_archive
    query_no_archive p = t.asks p (file_meaning (0x04 ∷ g_image))

    pub query_too_long : c.asks (g_image ++ (0x00 ∷ [])) 40 3 1 0 v → v ≡ wrong_length
    query_too_long p = t.asks p (file_meaning (g_image ++ (0x00 ∷ [])))

    pub query_broken : c.asks not_empty 40 3 1 0 v → v ≡ broken_layout
    query_broken p = t.asks p (means_none no_image)

    pub query_not_installed : c.asks g_image 40 3 1 0 v → v ≡ not_installed
    query_not_installed p = t.asks p g_means

    pub query_no_kind : c.asks g_image 10 3 1 0 v → v ≡ not_a_kind
    query_no_kind p = t.asks p g_means

-- back of an image with versions is refused with 21, also where the buffer has no place
pub back_of_lab : {forwards backs : Converting} → RoundTrips forwards backs → {entry exit : List ℕ} {a : Written} → backs lab_image entry a exit
    → a ≡ Written.Refused has_versions
back_of_lab r p = r.cannot_go_back p (means latest versioned (legal (lab 513 256 513) words_versioned) refl image_of_lab) refl refl refl
