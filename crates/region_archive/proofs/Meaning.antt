-- Each file means something: it is the image of a legal model, or of none.
use mathlib.Core.Path.{◌≡◌, sym, ap, ◌∙◌, subst}
use mathlib.Core.Bool.{true}
use mathlib.Core.List.{List, []}
use mathlib.Core.Logic.{⊎_elim}
use Prim.Native.Nat.{ℕ}
use lib.ListN.{drop, get_or}
use Rattle.region_graph.specs.Model.{Model, Legal}
use Rattle.region_graph.proofs.Legal.{legal_nothing}
use Rattle.big_endian.proofs.SomeOrNone.{some_or_none}
use Rattle.region_archive.specs.Image.{image_in, in_version}
use Rattle.region_archive.specs.File.{FileMeaning, means, means_none, read_model}
use Rattle.region_archive.specs.Sections.{LegalIn}
use Rattle.region_archive.proofs.ModelReaders.{read_body}
use Rattle.region_archive.proofs.OneImage.{image_body, first_version}
use Rattle.region_archive.proofs.LegalTests.{tested_in}

-- the model that the body of a file of version v reads as
model_of : ℕ → List ℕ → Model
model_of v s = ((read_body v).read (drop 5 s)).0

model_back : (v : ℕ) (m : Model) → LegalIn v m → model_of v (image_in v m) ≡ m
unfolding model_of
model_back v m l = ap (λ (s : List ℕ). ((read_body v).read s).0) (image_body v m) ∙ ap (λ q. q.0) ((read_body v).back m [] l)

-- every list of numbers has a meaning
pub file_meaning : (bytes : List ℕ) → FileMeaning bytes
file_meaning bytes =
    ⊎_elim (λ h. means first h.0 h.1.0 h.1.1 h.2) (λ n. means_none (other n))
    (some_or_none (image_in first) (tested_in first) (model_of first) (model_back first) bytes)
  where
    first : ℕ
    first = get_or bytes 0 0

    other : ((m : Model) → LegalIn first m → image_in first m ≡ bytes → ⊥)
        → (v : ℕ) (m : Model) → Legal m → in_version v m ≡ true → image_in v m ≡ bytes → ⊥
    other n v m l h e =
        let d = first_version v m e in
        n m (l, subst (λ (w : ℕ). in_version w m ≡ true) d h) (ap (λ (w : ℕ). image_in w m) (sym d) ∙ e)

-- what a file means is legal
pub model_legal : {s : List ℕ} (f : FileMeaning s) → Legal (read_model f)
model_legal (means v m l h e) = l
model_legal (means_none n) = legal_nothing
