-- What the promises of the writer and of the reader say of each other.
use mathlib.Core.Path.{◌≡◌, refl, sym, ap, ◌∙◌, subst}
use mathlib.Core.Bool.{Bool, true, false}
use mathlib.Core.List.{List}
use Prim.Native.Nat.{ℕ, ◌≤◌}
use borrow.Author.Tests.{le-leb, eq-eqb, eqb-true, eqb-false}
use lib.Dec.{eqb}
use lib.ListN.{length, take, drop, get_or}
use lib.Seq.{take_at}
use Rattle.std.specs.Prelude.{Err}
use Rattle.region_graph.specs.Refusals.{not_refused, refusal_number}
use Rattle.region_graph.specs.Lists.{pick}
use Rattle.region_graph.specs.Model.{Model, Legal}
use Rattle.region_graph.specs.Record.{Valid, meaning}
use Rattle.region_graph.specs.Promise.{Empty, Changed}
use Rattle.region_graph.specs.declared.Graph.{Graph}
use Rattle.region_graph.specs.declared.refusals.Refusal.{Refusal}
use Rattle.region_graph.specs.Calls.{Question, first_no}
use Rattle.region_graph.proofs.Lists.{false_true}
use Rattle.region_graph.proofs.Legal.{all_yes}
use Rattle.region_graph.proofs.Storing.{meaning_injective}
use Rattle.region_routes.specs.Hooks.{Outcome, written}
use Rattle.region_archive.specs.Image.{image, image_in, in_version}
use Rattle.region_archive.specs.File.{FileMeaning, means, means_none, read_questions, read_number, read_model}
use Rattle.region_archive.specs.Promise.{archived, image_outcome, write_questions, write_outcome, Given, Reads, ReadsOver, Written}
use Rattle.region_archive.proofs.FileReads.{accepted, refused_model}
use Rattle.region_archive.proofs.OneImage.{first_version}
use Rattle.region_archive.proofs.Meaning.{file_meaning}

-- the bytes are the image of version v of a model that has one
abbrev pub Image : ℕ → Model → List ℕ → Type 0
Image v m s = (in_version v m ≡ true) × (image_in v m ≡ s)

-- a file that is no image is refused
none_refused : {s : List ℕ} (n : (v : ℕ) (m : Model) → Legal m → in_version v m ≡ true → image_in v m ≡ s → ⊥)
    → read_number (means_none n) ≡ not_refused → ⊥
none_refused n e = false_true (all_yes (read_questions (means_none n)) (refl, (refl, (refl, tt))) e).1.1.0

-- a refused read gives what the empty record means
pub refused_read : {s : List ℕ} {g : Graph} (e : Refusal) → Empty g → Given s (Err e) → Reads s (record { graph = g; number = refusal_number e })
refused_read e h p = record {
  valid = h.valid;
  says = λ f. record { number = (p f).0; next = h.model ∙ (p f).1 };
}

-- what a read gives is what a read over the empty record gives
pub read_over_empty : {s : List ℕ} {g : Graph} {r : Changed} → Empty g → Reads s r → ReadsOver g s r
read_over_empty {s} {g} {r} e a = record {
  valid = a.valid;
  kept = λ u. let f = file_meaning s in meaning_injective r.graph g a.valid e.valid (nothing_read f (λ z. u ((a.says f).number ∙ z)));
  says = λ f. record { number = (a.says f).number; next = go f (eqb (read_number f) not_refused) refl };
}
  where
    nothing_read : (f : FileMeaning s) → (read_number f ≡ not_refused → ⊥) → meaning r.graph ≡ meaning g
    nothing_read f u = (a.says f).next ∙ refused_model f u ∙ sym e.model

    go : (f : FileMeaning s) (b : Bool) → eqb (read_number f) not_refused ≡ b → meaning r.graph ≡ pick b (read_model f) (meaning g)
    go f true q = (a.says f).next
    go f false q = nothing_read f (eqb-false (read_number f) not_refused q)

module _ {g : Graph} {s : List ℕ} {r : Changed} (a : ReadsOver g s r) where
  -- an accepted file is read as what it means
  pub accepted_model : r.number ≡ not_refused → (f : FileMeaning s) → meaning r.graph ≡ read_model f
  accepted_model e f =
      (a.says f).next ∙ ap (λ (b : Bool). pick b (read_model f) (meaning g)) (eq-eqb (read_number f) not_refused (sym (a.says f).number ∙ e))

  -- an accepted file is an image of what the record means, of the version that its first byte says
  pub accepted_image : r.number ≡ not_refused → Image (get_or s 0 0) (meaning r.graph) s
  accepted_image e = by (file_meaning s)
    where
      by : (f : FileMeaning s) → Image (get_or s 0 0) (meaning r.graph) s
      by (means v m l h i) =
          subst (λ (w : ℕ). Image w (meaning r.graph) s) (first_version v m i)
          (subst (λ (x : Model). Image v x s) (sym (accepted_model e (means v m l h i))) (h, i))
      by (means_none n) = absurd (none_refused n (sym (a.says (means_none n)).number ∙ e))

  -- an image of a legal model is accepted, and read as that model
  pub image_accepted : (v : ℕ) (m : Model) → Legal m → Image v m s → (r.number ≡ not_refused) × (meaning r.graph ≡ m)
  image_accepted v m l i =
      let f = means v m l i.0 i.1 in
      let n : r.number ≡ not_refused = (a.says f).number ∙ sym (accepted f v m (l, i.0) i.1).0 in
      (n, accepted_model n f)

  -- where no valid record has the file as an image, it is refused
  pub others_refused : ((v : ℕ) (h : Graph) → Valid h → in_version v (meaning h) ≡ true → image_in v (meaning h) ≡ s → ⊥)
      → r.number ≡ not_refused → ⊥
  others_refused u e = let i = accepted_image e in u (get_or s 0 0) r.graph a.valid i.0 i.1

-- two reads of one file, over one record, give one result
pub read_settled : {g : Graph} {s : List ℕ} {x y : Changed} → ReadsOver g s x → ReadsOver g s y → x ≡ y
read_settled {g} {s} {x} {y} a b =
    let f = file_meaning s in
    λ i. record {
      graph = meaning_injective x.graph y.graph a.valid b.valid ((a.says f).next ∙ sym (b.says f).next) i;
      number = ((a.says f).number ∙ sym (b.says f).number) i;
    }

-- the bytes that are reported are the image, and all questions were answered yes
abbrev byte_count : Written → ℕ
byte_count (Written.Bytes n) = n
byte_count (Written.Refused n) = 0

abbrev is_bytes : Written → Bool
is_bytes (Written.Bytes n) = true
is_bytes (Written.Refused n) = false

pub image_put : (qs : List Question) (s entry exit : List ℕ) (n : ℕ)
    → ◌≡◌ {A = Outcome Written (List ℕ)} (archived (Written.Bytes n) exit) (image_outcome qs s entry)
    → (first_no qs ≡ not_refused) × (s ≡ take n exit) × (exit ≡ written s entry)
image_put qs s entry exit n w = by (eqb (first_no qs) not_refused) refl w
  where
    by : (b : Bool) → eqb (first_no qs) not_refused ≡ b
        → ◌≡◌ {A = Outcome Written (List ℕ)} (archived (Written.Bytes n) exit)
        (pick b (archived (Written.Bytes (length s)) (written s entry)) (archived (Written.Refused (first_no qs)) entry))
        → (first_no qs ≡ not_refused) × (s ≡ take n exit) × (exit ≡ written s entry)
    by true e w = (
      eqb-true (first_no qs) not_refused e,
      sym ((λ i. take (byte_count (w i).answer) (w i).exit) ∙ take_at s (drop (length s) entry) (length s) refl),
      ap (λ (o : Outcome Written (List ℕ)). o.exit) w,
    )
    by false e w = false_true (sym (ap (λ (o : Outcome Written (List ℕ)). is_bytes o.answer) w))

pub written_image : (m : Model) (entry exit : List ℕ) (n : ℕ)
    → ◌≡◌ {A = Outcome Written (List ℕ)} (archived (Written.Bytes n) exit) (write_outcome m entry) → image m ≡ take n exit
written_image m entry exit n w = (image_put (write_questions m entry) (image m) entry exit n w).1

-- where there is room for the image it is written
pub image_written : (m : Model) (s entry : List ℕ) → image m ≡ s → length s ≤ length entry
    → write_outcome m entry ≡ archived (Written.Bytes (length s)) (written s entry)
image_written m s entry i h = rw (i, le-leb (length s) (length entry) h) refl
