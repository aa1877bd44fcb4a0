-- The front of a file, the whole of it, and what the reader and the query answer.
use mathlib.Core.Path.{◌≡◌, refl, sym, ap, ◌∙◌, subst}
use mathlib.Core.Bool.{Bool, true, false, ◌&&◌}
use mathlib.Core.List.{List, [], ◌∷◌, ◌++◌, append-nil}
use Prim.Native.Nat.{ℕ, ◌+◌, ◌-◌, ◌*◌, ◌^◌, ◌≤◌, ◌<◌}
use native.Mathlib.Omega.{arith}
use borrow.Author.Tests.{le-leb, lt-leb, eq-eqb, ne_eqb, eqb-true, eqb-false, leb-true}
use lib.Dec.{eqb, leb}
use lib.ListN.{length, drop, get_or}
use lib.Seq.{drop-length}
use Rattle.region_graph.specs.Refusals.{not_refused, not_an_archive, wrong_length, broken_layout, refusal_number}
use Rattle.region_graph.specs.declared.refusals.Refusal.{Refusal}
use Rattle.region_graph.specs.Lists.{pick}
use Rattle.region_graph.specs.Model.{Model, Legal, nothing}
use Rattle.region_graph.specs.Calls.{Question, first_no, ask}
use Rattle.region_graph.specs.Record.{Valid, meaning}
use Rattle.region_graph.specs.Promise.{Empty, Changed}
use Rattle.region_graph.specs.declared.Graph.{Graph}
use Rattle.std.specs.Prelude.{Result, Ok, Err}
use Rattle.region_graph.proofs.Lists.{and_fst}
use Rattle.region_graph.proofs.Legal.{all_yes, first_no_stops, first_no_goes_on}
use Rattle.big_endian.specs.Bytes.{big}
use Rattle.region_archive.specs.Image.{latest, body_in, image_in, in_version}
use Rattle.region_archive.specs.File.{FileMeaning, means, means_none, is_image, read_model, read_number}
use Rattle.region_archive.specs.File.{oldest, opens, length_field, front_questions}
use Rattle.big_endian.specs.Parsing.{Parsed}
use Rattle.big_endian.proofs.Digits.{drop_byte, digits_none, digits_more, digits_all}
use Rattle.big_endian.proofs.Delimits.{word_bytes}
use Rattle.region_archive.specs.Promise.{Reads, ReadsOver, Given}
use Rattle.region_archive.specs.Sections.{LegalIn, BodyRead, whole, broken}
use Rattle.region_archive.proofs.OneImage.{image_body, first_version, one_image, image_front}

-- the length field, as the four bytes after the first
abbrev four : List ℕ → ℕ
four t = get_or t 0 0 * 16777216 + get_or t 1 0 * 65536 + get_or t 2 0 * 256 + get_or t 3 0

field_tail : (s : List ℕ) → length_field s ≡ four (drop 1 s)
field_tail [] = refl
field_tail (b ∷ s) = refl

-- what is read there is the length field
pub length_is : (s : List ℕ) {k end : ℕ} → Parsed (λ m. m < 256 ^ 4) (big 4) s 1 k end → length_field s ≡ k
length_is s {k} q = field_tail s ∙ ap four q.shape ∙ word_bytes k q.is_good

-- whether a file opens as an archive of a version from `low` to `high`
module _ (low high : ℕ) (s : List ℕ) where
  pub opens_short : length s < 5 → false ≡ opens low high s
  opens_short h = rw (lt-leb 5 (length s) h) refl

  pub opens_before : 5 ≤ length s → get_or s 0 0 < low → false ≡ opens low high s
  opens_before h u = rw (le-leb 5 (length s) h, lt-leb low (get_or s 0 0) u) refl

  pub opens_told : 5 ≤ length s → low ≤ get_or s 0 0 → leb (get_or s 0 0) high ≡ opens low high s
  opens_told h u = rw (le-leb 5 (length s) h, le-leb low (get_or s 0 0) u) refl

  pub opens_long : opens low high s ≡ true → 5 ≤ length s
  opens_long e = leb-true 5 (length s) (and_fst (leb 5 (length s)) (leb low (get_or s 0 0) && leb (get_or s 0 0) high) e)

  -- the questions about its front
  pub front_closed : opens low high s ≡ false → not_an_archive ≡ first_no (front_questions low high s)
  front_closed e = rw e refl

  module _ (e : opens low high s ≡ true) {k end : ℕ} (q : Parsed (λ m. m < 256 ^ 4) (big 4) s 1 k end) where
    pub front_misfit : (k ≡ length s - 5 → ⊥) → wrong_length ≡ first_no (front_questions low high s)
    front_misfit u = rw (e, ne_eqb (length_field s) (length s - 5) (λ z. u (sym (length_is s q) ∙ z))) refl

    pub front_fine : k ≡ length s - 5 → not_refused ≡ first_no (front_questions low high s)
    front_fine z = rw (e, eq-eqb (length_field s) (length s - 5) (length_is s q ∙ z)) refl

-- a refusal has a number above 0
pub refusal_positive : (r : Refusal) → refusal_number r ≡ not_refused → ⊥
refusal_positive Refusal.NotARegion e = omega arith
refusal_positive Refusal.RegionUsed e = omega arith
refusal_positive Refusal.NoSuchRegion e = omega arith
refusal_positive Refusal.EndsEqual e = omega arith
refusal_positive Refusal.Connected e = omega arith
refusal_positive Refusal.NotConnected e = omega arith
refusal_positive Refusal.ListTooLong e = omega arith
refusal_positive Refusal.ListOutOfOrder e = omega arith
refusal_positive Refusal.Installed e = omega arith
refusal_positive Refusal.Filtered e = omega arith
refusal_positive Refusal.Full e = omega arith
refusal_positive Refusal.NotInstalled e = omega arith
refusal_positive Refusal.NotAKind e = omega arith
refusal_positive Refusal.NoPlace e = omega arith
refusal_positive Refusal.NotAnArchive e = omega arith
refusal_positive Refusal.WrongLength e = omega arith
refusal_positive Refusal.BrokenLayout e = omega arith
refusal_positive Refusal.BrokenSheet e = omega arith
refusal_positive Refusal.NoEntry e = omega arith
refusal_positive Refusal.RangeReversed e = omega arith
refusal_positive Refusal.HasVersions e = omega arith

-- what a read asks about the front, and the version of the file
abbrev asked : List ℕ → List Question
asked s = front_questions oldest latest s

abbrev first_byte : List ℕ → ℕ
first_byte s = get_or s 0 0

module _ (s : List ℕ) where
  -- a file that passes the questions about its front, and whose body ends where it does, is that body's image
  module _ (bytes : (i : ℕ) → get_or s i 0 < 256) (z : not_refused ≡ first_no (asked s)) where
    passed : (opens oldest latest s ≡ true) × (eqb (length_field s) (length s - 5) ≡ true)
    passed =
        let a = all_yes (asked s) (refl, (refl, tt)) (sym z) in
        (a.0, a.1.0)

    pub long_enough : 5 ≤ length s
    long_enough = opens_long oldest latest s passed.0

    field_stands : Parsed (λ m. m < 256 ^ 4) (big 4) s 1 (length_field s) 5
    field_stands =
        let h = long_enough in
        let a = digits_more (digits_none s 1) (omega arith) refl (bytes 1) in
        let b = digits_more a (omega arith) refl (bytes 2) in
        let c = digits_more b (omega arith) refl (bytes 3) in
        let d = digits_more c (omega arith) refl (bytes 4) in
        let e : (((0 * 256 + get_or s 1 0) * 256 + get_or s 2 0) * 256 + get_or s 3 0) * 256 + get_or s 4 0 ≡ length_field s = omega arith in
        subst (λ (n : ℕ). Parsed (λ m. m < 256 ^ 4) (big 4) s 1 n 5) e (digits_all d refl h)

    pub image_is : (m : Model) {end : ℕ} → Parsed (LegalIn (first_byte s)) (body_in (first_byte s)) s 5 m end → end ≡ length s
        → image_in (first_byte s) m ≡ s
    unfolding image_in
    image_is m {end} p e =
        sym (drop_byte s 0 (omega (arith, long_enough))
        ∙ ap (λ (l : List ℕ). first_byte s ∷ l) (field_stands.shape ∙ (λ i. big 4 (size i) ++ rest i)))
      where
        body : List ℕ
        body = body_in (first_byte s) m

        size : length_field s ≡ length body
        size = omega (arith, eqb-true (length_field s) (length s - 5) passed.1, p.ends, e)

        rest : drop 5 s ≡ body
        rest = p.shape ∙ ap (λ (n : ℕ). body ++ drop n s) e ∙ ap (λ (l : List ℕ). body ++ l) (drop-length s) ∙ append-nil body

  -- it is the image of no legal model
  abbrev NoImage : Type 0
  NoImage = (v : ℕ) (m : Model) → Legal m → in_version v m ≡ true → image_in v m ≡ s → ⊥

  -- no body of its version to the end: no image
  pub bodiless : ((m : Model) → LegalIn (first_byte s) m → drop 5 s ≡ body_in (first_byte s) m → ⊥) → NoImage
  bodiless u v m l h e =
      let d = first_version v m e in
      u m (l, subst (λ (w : ℕ). in_version w m ≡ true) d h)
      (ap (drop 5) (sym e) ∙ image_body v m ∙ append-nil (body_in v m) ∙ ap (λ (w : ℕ). body_in w m) d)

module _ {s : List ℕ} where
  -- the questions about the front come first
  pub stopped : (f : FileMeaning s) {k : ℕ} → k ≡ first_no (asked s) → (k ≡ not_refused → ⊥) → k ≡ read_number f
  stopped f {k} e u = sym (first_no_stops (asked s) (ask broken_layout (is_image f) ∷ []) (sym e) (ne_eqb k not_refused u))

  last_asked : (f : FileMeaning s) → not_refused ≡ first_no (asked s) → read_number f ≡ first_no (ask broken_layout (is_image f) ∷ [])
  last_asked f e = first_no_goes_on (asked s) (ask broken_layout (is_image f) ∷ []) (all_yes (asked s) (refl, (refl, tt)) (sym e))

  pub broken_file : (f : FileMeaning s) → not_refused ≡ first_no (asked s) → NoImage s → broken_layout ≡ read_number f
  broken_file (means v m l h e) z u = absurd (u v m l h e)
  broken_file (means_none n) z u = sym (last_asked (means_none n) z)

  -- an image is read with no refusal
  accepted_number : (v : ℕ) (m : Model) → LegalIn v m → image_in v m ≡ s → not_refused ≡ first_no (asked s)
  accepted_number v m l e = sym (ap (λ (t : List ℕ). first_no (asked t)) (sym e) ∙ image_front v m l)

  pub accepted : (f : FileMeaning s) (v : ℕ) (m : Model) → LegalIn v m → image_in v m ≡ s → (not_refused ≡ read_number f) × (m ≡ read_model f)
  accepted (means w n k g i) v m l e =
      (sym (last_asked (means w n k g i) (accepted_number v m l e)), (one_image v w m n l (k, g) (e ∙ sym i)).1)
  accepted (means_none n) v m l e = absurd (n v m l.0 l.1 e)

  -- what is refused means nothing
  pub refused_model : (f : FileMeaning s) → (read_number f ≡ not_refused → ⊥) → read_model f ≡ nothing
  refused_model (means v m l h e) u = absurd (u (sym (accepted (means v m l h e) v m (l, h) e).0))
  refused_model (means_none n) u = refl

  -- a refused read gives the empty record
  pub reads_refused : {r : Changed} {k : ℕ} → (r.number ≡ k) × Empty r.graph → (k ≡ not_refused → ⊥)
      → ((f : FileMeaning s) → k ≡ read_number f) → Reads s r
  reads_refused {r} {k} (n, z) u e = record {
    valid = z.valid;
    says = λ f. record { number = n ∙ e f; next = z.model ∙ sym (refused_model f (λ h. u (e f ∙ h))) };
  }

  -- a refusal, with the number that the file is read with
  pub read_refused : (e : Refusal) → ((f : FileMeaning s) → refusal_number e ≡ read_number f) → Given s (Err e)
  read_refused e u f = (u f, sym (refused_model f (λ h. refusal_positive e (u f ∙ h))))

  -- what the body gave is what the file means
  pub body_reads : (bytes : (i : ℕ) → get_or s i 0 < 256) → not_refused ≡ first_no (asked s) → {r : Result Graph Refusal}
      → BodyRead (first_byte s) s 5 r → Given s r
  body_reads bytes z {r} (whole m p g i v e) =
      subst (Given s) (sym i) (record {
        valid = v;
        says = λ f.
            let a = accepted f (first_byte s) m p.is_good (image_is s bytes z m p refl) in
            record { number = a.0; next = e ∙ a.1 };
      })
  body_reads bytes z {r} (broken u i) = subst (Given s) (sym i) (read_refused Refusal.BrokenLayout (λ f. broken_file f z (bodiless s u)))

  -- over a record at hand, a refused read hands that record back
  pub over_refused : {g : Graph} → Valid g → (e : Refusal) → Given s (Err e) → ReadsOver g s (record { graph = g; number = refusal_number e })
  over_refused {g} v e h = record {
    valid = v;
    kept = λ w. refl;
    says = λ f.
        let refuse = ne_eqb (read_number f) not_refused (λ z. refusal_positive e ((h f).0 ∙ z)) in
        record { number = (h f).0; next = sym (ap (λ (b : Bool). pick b (read_model f) (meaning g)) refuse) };
  }

  pub over_accepted : {g h : Graph} → Given s (Ok h) → ReadsOver g s (record { graph = h; number = not_refused })
  over_accepted {g} r = record {
    valid = r.valid;
    kept = λ w. absurd (w refl);
    says = λ f.
        let accept = eq-eqb (read_number f) not_refused (sym (r.says f).number) in
        record { number = (r.says f).number; next = (r.says f).next ∙ sym (ap (λ (b : Bool). pick b (read_model f) (meaning g)) accept) };
  }

  -- an accepted read over a record gives what a read gives
  pub read_anew : {g h : Graph} → ReadsOver g s (record { graph = h; number = not_refused }) → Given s (Ok h)
  read_anew r = record {
    valid = r.valid;
    says = λ f. let n = (r.says f).number in record { number = n; next = rw (← n) at (r.says f).next };
  }

  -- a read over the empty record gives what the file means, or the empty record again
  pub over_empty : {g : Graph} {r : Changed} → Empty g → ReadsOver g s r → Reads s r
  over_empty {g} {r} e a = record {
    valid = a.valid;
    says = λ f. record { number = (a.says f).number; next = (a.says f).next ∙ go f (eqb (read_number f) not_refused) refl };
  }
    where
      go : (f : FileMeaning s) (b : Bool) → eqb (read_number f) not_refused ≡ b → pick b (read_model f) (meaning g) ≡ read_model f
      go f true q = refl
      go f false q = e.model ∙ sym (refused_model f (eqb-false (read_number f) not_refused q))
