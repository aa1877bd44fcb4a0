-- Document 01's image and listing of graph G, computed; what is printed for a graph with nothing in it, and for a refused file.
use mathlib.Core.Path.{◌≡◌, refl, sym, subst}
use mathlib.Core.Bool.{false}
use mathlib.Core.List.{List, [], ◌∷◌, ◌++◌}
use Prim.Native.Nat.{ℕ, ◌≤◌}
use lib.ListN.{length}
use Rattle.region_graph.specs.Model.{nothing}
use Rattle.region_graph.specs.Refusals.{broken_layout}
use Rattle.region_graph.specs.Calls.{Call, run}
use Rattle.region_routes.specs.Chosen.{chosen_by, chosen}
use Rattle.text_lines.specs.Decimal.{decimal}
use Rattle.region_archive.specs.Image.{image_in, image, older_version, older_image, unversioned}
use Rattle.region_archive.specs.Promise.{Written}
use Rattle.region_convert.specs.Conversion.{Forwards, Backs}
use Rattle.region_listing.specs.Listing.{held, seen_from, header, listing_text, refused_word, refusal_text}
use Rattle.demands.specs.RoundTrips.{Puts}
use Rattle.demands.specs.JointTable.{graph_g, editions, g_image, g_older_image, lines_of_g}
use Rattle.demands.proofs.Converted.{forward_image, back_image}
use Rattle.demands.proofs.Rows.{legal, words_g}

pub image_of_g : image (run nothing graph_g) ≡ g_image
unfolding image_in
image_of_g = refl

pub length_of_image : length g_image ≡ 108
length_of_image = refl

pub older_image_of_g : older_image (run nothing graph_g) ≡ g_older_image
unfolding image_in older_version
older_image_of_g = refl

pub length_of_older : length g_older_image ≡ 84
length_of_older = refl

-- forward of G's older image gives its image, and back of this gives that
pub forward_of_g : (entry : List ℕ) {exit : List ℕ} {a : Written} → Forwards g_older_image entry a exit → 108 ≤ length entry → Puts g_image entry a exit
forward_of_g entry {exit} {a} p r =
    subst (λ (s : List ℕ). Puts s entry a exit) image_of_g
    (forward_image (run nothing graph_g) (legal graph_g words_g) refl entry older_image_of_g p
    (subst (λ (s : List ℕ). length s ≤ length entry) (sym image_of_g) r))

pub back_of_g : (entry : List ℕ) {exit : List ℕ} {a : Written} → Backs g_image entry a exit → 84 ≤ length entry → Puts g_older_image entry a exit
back_of_g entry {exit} {a} p r =
    subst (λ (s : List ℕ). Puts s entry a exit) older_image_of_g
    (back_image (run nothing graph_g) (legal graph_g words_g) refl entry image_of_g p
    (subst (λ (s : List ℕ). length s ≤ length entry) (sym older_image_of_g) r))

-- a package of version 8 cannot go back
pub editions_stay : unversioned (run nothing editions) ≡ false
editions_stay = refl

-- of the older images: the last region of version 1, the first of version 2, and the last of all
pub image_of_early : older_image (run nothing (Call.add_region 0 ∷ Call.add_region 15 ∷ [])) ≡ 1 ∷ 0 ∷ 0 ∷ 0 ∷ 5 ∷ 2 ∷ 0 ∷ 15 ∷ 0 ∷ 0 ∷ []
unfolding image_in older_version
image_of_early = refl

pub image_of_next : older_image (run nothing (Call.add_region 16 ∷ [])) ≡ 2 ∷ 0 ∷ 0 ∷ 0 ∷ 4 ∷ 1 ∷ 16 ∷ 0 ∷ 0 ∷ []
unfolding image_in older_version
image_of_next = refl

pub image_of_late : older_image (run nothing (Call.add_region 0 ∷ Call.add_region 63 ∷ [])) ≡ 2 ∷ 0 ∷ 0 ∷ 0 ∷ 5 ∷ 2 ∷ 0 ∷ 63 ∷ 0 ∷ 0 ∷ []
unfolding image_in older_version
image_of_late = refl

pub printed_g : listing_text (run nothing graph_g) ≡ header ++ lines_of_g
unfolding listing_text header seen_from held decimal chosen chosen_by
printed_g = refl

pub printed_nothing : listing_text nothing ≡ header
unfolding listing_text header
printed_nothing = refl

-- refused 17
pub printed_refusal : refusal_text broken_layout ≡ 114 ∷ 101 ∷ 102 ∷ 117 ∷ 115 ∷ 101 ∷ 100 ∷ 32 ∷ 49 ∷ 55 ∷ 10 ∷ []
unfolding refusal_text refused_word decimal
printed_refusal = refl
