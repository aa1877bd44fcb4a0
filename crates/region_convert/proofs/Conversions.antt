-- What a conversion answers: 15 where its versions are not those of the file, then what a read refuses, then what the writer says.
use mathlib.Core.Path.{◌≡◌, refl, sym, ap, ◌∙◌}
use mathlib.Core.Bool.{Bool, true, false, not, ◌&&◌}
use mathlib.Core.List.{List, ◌++◌}
use Prim.Native.Nat.{ℕ, ◌≤◌}
use native.Mathlib.Omega.{arith}
use borrow.Author.Tests.{le-leb, leb-true, eq-eqb, ne_eqb, not-true, not-false}
use Rattle.std.specs.Prelude.{Ok, Err}
use lib.Dec.{leb}
use lib.ListN.{length, get_or}
use Rattle.region_graph.specs.Refusals.{not_refused, not_an_archive, refusal_number}
use Rattle.region_graph.specs.Lists.{pick}
use Rattle.region_graph.specs.Model.{Model}
use Rattle.region_graph.specs.Calls.{Question, first_no}
use Rattle.region_graph.specs.Record.{Valid, meaning}
use Rattle.region_graph.specs.Promise.{Changed}
use Rattle.region_graph.specs.declared.Graph.{Graph}
use Rattle.region_graph.specs.declared.refusals.Refusal.{Refusal}
use Rattle.region_graph.proofs.Lists.{and_fst, and_snd}
use Rattle.region_graph.proofs.Legal.{first_step, second_step}
use Rattle.region_routes.specs.Hooks.{Outcome, written, judged}
use Rattle.region_archive.specs.Image.{latest}
use Rattle.region_archive.specs.File.{FileMeaning, read_model, read_number, oldest, opens}
use Rattle.region_archive.specs.Promise.{Written, written_answer, archived, image_outcome, Given, Reads, ReadsOver}
use Rattle.region_archive.proofs.FileReads.{opens_long, refusal_positive}
use Rattle.region_convert.specs.Conversion.{questions_between}

-- what a read of the versions from `low` to `high` gave
pub record ReadsBetween (low high : ℕ) (s : List ℕ) (r : Changed) : Type 0 where
  pub valid : Valid r.graph
  pub number : (f : FileMeaning s) → r.number ≡ first_no (questions_between low high f)
  pub next : r.number ≡ not_refused → (f : FileMeaning s) → meaning r.graph ≡ read_model f

-- a file that opens as one of the versions from `low` to `high` is of one of them, and opens as one of more
module _ (low high : ℕ) (s : List ℕ) (e : opens low high s ≡ true) where
  pub opens_between : (low ≤ get_or s 0 0) × (get_or s 0 0 ≤ high)
  opens_between =
      let v = get_or s 0 0 in
      let b = and_snd (leb 5 (length s)) (leb low v && leb v high) e in
      (leb-true low v (and_fst (leb low v) (leb v high) b), leb-true v high (and_snd (leb low v) (leb v high) b))

  opens_more : oldest ≤ low → high ≤ latest → opens oldest latest s ≡ true
  opens_more l h =
      let v = get_or s 0 0 in
      rw (
        le-leb 5 (length s) (opens_long low high s e),
        le-leb oldest v (omega (arith, opens_between.0)),
        le-leb v latest (omega (arith, opens_between.1)),
      ) refl

  -- a read of it asks what is asked
  asked_alike : oldest ≤ low → high ≤ latest → (f : FileMeaning s) → read_number f ≡ first_no (questions_between low high f)
  asked_alike l h f = rw (e, opens_more l h) refl

  -- so a read over a record judges it
  pub opened_over : oldest ≤ low → high ≤ latest → {g : Graph} {r : Changed} → ReadsOver g s r → ReadsBetween low high s r
  opened_over l h {g} {r} read = record {
    valid = read.valid;
    number = λ f. (read.says f).number ∙ asked_alike l h f;
    next = λ z f.
        let accept = eq-eqb (read_number f) not_refused (sym (read.says f).number ∙ z) in
        (read.says f).next ∙ ap (λ (b : Bool). pick b (read_model f) (meaning g)) accept;
  }

-- a file of a version that is not admitted, and one that a read judges
module _ (low high : ℕ) {s : List ℕ} {b : Bool} (told : b ≡ opens low high s) {r : Changed} where
  pub not_opened : not b ≡ true → Valid r.graph → r.number ≡ not_an_archive → ReadsBetween low high s r
  not_opened n v e = record {
    valid = v;
    number = λ f. e ∙ rw (sym told ∙ not-true b n) refl;
    next = λ z. absurd (omega (arith, z, e));
  }

  pub opened_read : not b ≡ false → oldest ≤ low → high ≤ latest → Reads s r → ReadsBetween low high s r
  opened_read n l h read = record {
    valid = read.valid;
    number = λ f. (read.says f).number ∙ asked_alike low high s (sym told ∙ not-false b n) l h f;
    next = λ z f. (read.says f).next;
  }

-- Versions from `low` to `high`, and for each model the questions that follow those of the reader and the image that is written.
module _ (low high : ℕ) (rest : Model → List Question) (image_of : Model → List ℕ) (entry : List ℕ) {s : List ℕ} where
  abbrev asked : FileMeaning s → List Question
  asked f = questions_between low high f

  abbrev outcome : FileMeaning s → Outcome Written (List ℕ)
  outcome f = image_outcome (asked f ++ rest (read_model f)) (image_of (read_model f)) entry

  -- what is answered where the first question answered no has the number n
  abbrev answer_by : FileMeaning s → ℕ → Outcome Written (List ℕ)
  answer_by f n =
      let t = image_of (read_model f) in
      judged Written.Refused n (archived (Written.Bytes (length t)) (written t entry)) entry

  -- the reader's questions are all answered yes
  pub then_asked : (f : FileMeaning s) → not_refused ≡ first_no (asked f)
      → image_outcome (rest (read_model f)) (image_of (read_model f)) entry ≡ outcome f
  then_asked f e = ap (answer_by f) (second_step (asked f) (rest (read_model f)) (refl, (refl, (refl, tt))) e refl refl)

  -- one of them is answered no, and has the number n
  stopped_at : (n : ℕ) → (n ≡ not_refused → ⊥) → (f : FileMeaning s) → n ≡ first_no (asked f) → archived (Written.Refused n) entry ≡ outcome f
  stopped_at n u f e =
      let t = image_of (read_model f) in
      sym (ap (λ (x : Bool). pick x (archived (Written.Bytes (length t)) (written t entry)) (archived (Written.Refused n) entry))
      (ne_eqb n not_refused u))
      ∙ ap (answer_by f) (first_step (asked f) (rest (read_model f)) (refl, (refl, (refl, tt))) e u)

  -- a file of a version that is not admitted
  pub not_asked : (e : Refusal) → ((f : FileMeaning s) → refusal_number e ≡ first_no (asked f)) → (f : FileMeaning s)
      → archived (written_answer (Err e)) entry ≡ outcome f
  not_asked e first f = stopped_at (refusal_number e) (refusal_positive e) f (first f)

  -- what is refused, and what is written of a file that was read
  module _ {r : Changed} (read : ReadsBetween low high s r) where
    pub not_read : (r.number ≡ not_refused → ⊥) → (f : FileMeaning s) → archived (Written.Refused r.number) entry ≡ outcome f
    not_read u f = stopped_at r.number u f (read.number f)

    pub then_written : r.number ≡ not_refused → {o : Outcome Written (List ℕ)}
        → o ≡ image_outcome (rest (meaning r.graph)) (image_of (meaning r.graph)) entry → (f : FileMeaning s) → o ≡ outcome f
    then_written z e f =
        e ∙ ap (λ (m : Model). image_outcome (rest m) (image_of m) entry) (read.next z f) ∙ then_asked f (sym z ∙ read.number f)

  -- what is refused by a read that hands back no record, and what is written of one that it hands back
  module _ (opened : opens low high s ≡ true) (l : oldest ≤ low) (h : high ≤ latest) where
    pub not_given : (e : Refusal) → Given s (Err e) → (f : FileMeaning s) → archived (written_answer (Err e)) entry ≡ outcome f
    not_given e read f = not_asked e (λ m. (read m).0 ∙ asked_alike low high s opened l h m) f

    pub given_written : (g : Graph) → Given s (Ok g) → {o : Outcome Written (List ℕ)}
        → o ≡ image_outcome (rest (meaning g)) (image_of (meaning g)) entry → (f : FileMeaning s) → o ≡ outcome f
    given_written g read e f = then_written (opened_read low high (sym opened) refl l h read) refl e f
