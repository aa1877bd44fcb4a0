-- The images: their length, their pieces, and what a write of one is.
use mathlib.Core.Path.{◌≡◌, sym, ap, ◌∙◌}
use mathlib.Core.Bool.{true, false}
use mathlib.Core.List.{List, ◌++◌}
use Prim.Native.Nat.{ℕ, ◌+◌, ◌<◌}
use native.Mathlib.Nat.{zero-add}
use native.Mathlib.Omega.{arith}
use lib.ListN.{length, drop, length-append}
use borrow.Author.Tests.{le-leb, lt-leb}
use Rattle.region_graph.specs.Refusals.{no_place, has_versions}
use Rattle.region_graph.specs.Model.{Model, Legal}
use Rattle.region_graph.proofs.Lists.{concat_length}
use Rattle.text_lines.specs.Written.{WrittenAt}
use Rattle.big_endian.specs.Bytes.{big, counted}
use Rattle.big_endian.proofs.Digits.{big_length, big_one}
use Rattle.region_archive.specs.Image.{body_in, image_in, unversioned, older_image}
use Rattle.region_archive.specs.RecordFields.{section_bytes}
use Rattle.region_archive.specs.Promise.{Written, archived, placed_outcome, older_outcome}
use Rattle.region_archive.specs.declared.record_fields.Section.TheVariants as Section
use Rattle.region_archive.proofs.Records.{body_sections}

-- regions take one byte each, and one for their count
pub regions_size : (rs : List ℕ) → length (counted (big 1) rs) ≡ 1 + length rs
regions_size rs = omega (arith, concat_length (big 1) 1 (big_length 1) rs)

-- a body is as long as its regions and its sections
pub body_size : (v : ℕ) (m : Model) → Legal m
    → length (body_in v m) ≡ 1 + length m.regions + length (section_bytes (Section.Bundles v) m) + length (section_bytes (Section.Connections v) m)
body_size v m h =
    let r = counted (big 1) m.regions in
    let b = section_bytes (Section.Bundles v) m in
    let c = section_bytes (Section.Connections v) m in
    omega (arith, ap length (body_sections v m h) ∙ length-append r (b ++ c), length-append b c, regions_size m.regions)

-- the version and the length take five bytes
pub image_size : (v : ℕ) (m : Model) → length (image_in v m) ≡ 5 + length (body_in v m)
unfolding image_in
image_size v m = omega (arith, length-append (big 4 (length (body_in v m))) (body_in v m))

-- the image as the writer's five pieces
abbrev pub pieces : ℕ → Model → ℕ → List ℕ
pieces v m size =
    big 1 v ++ (big 4 size ++ (counted (big 1) m.regions ++ (section_bytes (Section.Bundles v) m ++ section_bytes (Section.Connections v) m)))

pub image_pieces : (v : ℕ) (m : Model) → Legal m → v < 256 → {size : ℕ} → size ≡ length (body_in v m) → pieces v m size ≡ image_in v m
unfolding image_in
image_pieces v m h b {size} e =
    ap (pieces v m) e ∙ (λ i. big_one v b i ++ (big 4 (length (body_in v m)) ++ sym (body_sections v m h) i))

-- an image was written at the buffer's start
pub wrote_image : (s : List ℕ) {old new : List ℕ} {end : ℕ} → WrittenAt old new 0 s end → archived (Written.Bytes end) new ≡ placed_outcome s old
wrote_image s {old} {new} {end} w =
    let e : end ≡ length s = w.ends ∙ zero-add (length s) in
    let f : new ≡ s ++ drop (length s) old = w.shape ∙ ap (λ (n : ℕ). s ++ drop n old) e in
    rw (le-leb (length s) (length old) (omega (arith, w.ends, w.room))) (λ i. archived (Written.Bytes (e i)) (f i))

-- an image has no place
pub no_image : (s old : List ℕ) → length old < length s → archived (Written.Refused no_place) old ≡ placed_outcome s old
no_image s old h = rw (lt-leb (length s) (length old) h)

-- an older image is written of a model without versions
module _ (m : Model) (old : List ℕ) where
  pub older_refused : unversioned m ≡ false → archived (Written.Refused has_versions) old ≡ older_outcome m old
  older_refused e = rw e

  pub older_placed : unversioned m ≡ true → placed_outcome (older_image m) old ≡ older_outcome m old
  older_placed e = rw e

-- a body has the bytes of its three pieces
pub body_parts : (v : ℕ) (m : Model) → Legal m
    → length (body_in v m)
    ≡ length (counted (big 1) m.regions) + (length (section_bytes (Section.Bundles v) m) + length (section_bytes (Section.Connections v) m))
body_parts v m h = omega (arith, body_size v m h, regions_size m.regions)
