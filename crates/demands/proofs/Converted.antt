-- Conversions of archives: what the promises of forward and back say of each other.
use mathlib.Core.Path.{◌≡◌, refl, sym, ap, ◌∙◌, subst}
use mathlib.Core.Bool.{Bool, true, false}
use mathlib.Core.Logic.{◌⊎◌, inl, inr, ⊎_elim}
use mathlib.Core.List.{List, [], ◌∷◌, ◌++◌}
use Prim.Native.Nat.{ℕ, ◌-◌, ◌≤◌}
use native.Mathlib.Omega.{arith}
use borrow.Author.Tests.{le-leb, eq-eqb}
use lib.Dec.{leb}
use lib.ListN.{length, take, get_or}
use Rattle.region_graph.specs.Refusals.{not_refused, broken_layout, has_versions}
use Rattle.region_graph.specs.Lists.{All, pick}
use Rattle.region_graph.specs.Model.{Model, Legal}
use Rattle.region_graph.specs.Calls.{Question, ask, first_no}
use Rattle.region_graph.proofs.Lists.{false_true}
use Rattle.region_graph.proofs.Legal.{all_yes, second_step}
use Rattle.region_routes.specs.Hooks.{Outcome, written}
use Rattle.region_archive.specs.Image.{latest, image, image_in, in_version, unversioned, older_version, older_image}
use Rattle.region_archive.specs.File.{FileMeaning, means, means_none, is_image, read_model, oldest, front_questions}
use Rattle.region_archive.specs.Promise.{written_as, archived, image_outcome, place_questions, write_questions, older_questions, Written}
use Rattle.region_archive.proofs.Versions.{older_between, in_cases, older_in}
use Rattle.region_archive.proofs.OneImage.{first_version, one_image, front_passed}
use Rattle.region_archive.proofs.Images.{older_refused}
use Rattle.region_archive.proofs.Meaning.{file_meaning, model_legal}
use Rattle.region_convert.specs.Conversion.{questions_between, forward_questions, back_questions, back_outcome, Forwards, Backs}
use Rattle.region_convert.proofs.Conversions.{opens_between, then_asked}
use Rattle.region_host.specs.CNumbers.{written_value, written_of}
use Rattle.region_host.proofs.Outcomes.{read_off, image_whole}
use Rattle.region_host.proofs.ReadBack.{written_back}
use Rattle.region_host.proofs.Given.{forward_given, back_given, first_no_of}
use Rattle.demands.specs.RoundTrips.{Converting, AskedFirst, Puts, RoundTrips, ValueForward, by_forward, ValueBack, by_back}
use Rattle.demands.specs.RoundTrips.{LentForward, by_archive_forward, LentBack, by_archive_back}
use Rattle.demands.proofs.Claims.{judged_kept, judged_number}
use Rattle.demands.proofs.Inverse.{image_put}

-- what is written where all questions are answered yes
put_yes : (qs : List Question) (t entry : List ℕ) {a : Written} {exit : List ℕ} → first_no qs ≡ not_refused
    → ◌≡◌ {A = Outcome Written (List ℕ)} (archived a exit) (image_outcome qs t entry) → Puts t entry a exit
put_yes qs t entry {a} {exit} z e =
    let o : archived a exit ≡ archived (Written.Bytes (length t)) (written t entry) = e ∙ rw (eq-eqb (first_no qs) not_refused z) refl in
    (ap (λ (x : Outcome Written (List ℕ)). x.answer) o, ap (λ (x : Outcome Written (List ℕ)). x.exit) o)

-- the first question answered no is none of these
not_among : (qs rs : List Question) {k : ℕ} → All (λ q. q.number ≡ k → ⊥) qs → first_no (qs ++ rs) ≡ k
    → All (λ q. q.yes ≡ true) qs × (first_no rs ≡ k)
not_among [] rs u e = (tt, e)
not_among (q ∷ qs) rs {k} u e = go q.yes refl (not_among qs rs u.1) e
  where
    go : (b : Bool) → q.yes ≡ b → (first_no (qs ++ rs) ≡ k → All (λ x. x.yes ≡ true) qs × (first_no rs ≡ k))
        → pick b (first_no (qs ++ rs)) q.number ≡ k → All (λ x. x.yes ≡ true) (q ∷ qs) × (first_no rs ≡ k)
    go true h later w = ((h, (later w).0), (later w).1)
    go false h later w = absurd (u.0 w)

-- it is this one
is_first : (q : Question) (qs : List Question) {k : ℕ} → first_no (q ∷ qs) ≡ k → (first_no qs ≡ k → ⊥) → q.yes ≡ false
is_first q qs {k} e u = go q.yes refl e
  where
    go : (b : Bool) → q.yes ≡ b → pick b (first_no qs) q.number ≡ k → q.yes ≡ false
    go true h w = absurd (u w)
    go false h w = h

-- an image of a version that is admitted passes the reader's questions
admitted : (low high : ℕ) {s : List ℕ} (f : FileMeaning s) → is_image f ≡ true → low ≤ get_or s 0 0 → get_or s 0 0 ≤ high
    → not_refused ≡ first_no (questions_between low high f)
admitted low high (means_none n) i since until = false_true i
admitted low high {s} (means v m l h e) i since until =
    second_step (front_questions low high s) (ask broken_layout true ∷ []) (refl, (refl, tt))
    (sym (ap (λ (t : List ℕ). first_no (front_questions low high t)) (sym e)
    ∙ front_passed low high v m l (omega (arith, since, first_version v m e)) (omega (arith, until, first_version v m e)))) refl refl

-- a file that is an image of a legal model means it
image_means : (v : ℕ) (m : Model) → Legal m → in_version v m ≡ true → {t : List ℕ} → image_in v m ≡ t → (g : FileMeaning t)
    → (is_image g ≡ true) × (read_model g ≡ m)
image_means v m l h e (means w n k i d) = (refl, sym (one_image v w m n (l, h) (k, i) (e ∙ sym d)).1)
image_means v m l h e (means_none n) = absurd (n v m l h e)

-- what forward and back accept: a file that is an image of a model without versions, the older one or the latest
record Accepted (image_of : Model → List ℕ) (s : List ℕ) (m : Model) : Type 0 where
  legal : Legal m
  plain : unversioned m ≡ true
  is_image_of : image_of m ≡ s

older_file : {s : List ℕ} (f : FileMeaning s) (entry : List ℕ) → first_no (forward_questions f entry) ≡ not_refused → Accepted older_image s (read_model f)
older_file {s} f entry z =
    let y = all_yes (forward_questions f entry) (refl, (refl, (refl, (refl, tt)))) z in
    by f y.1.1.0 (opens_between oldest (latest - 1) s y.0).1
  where
    by : (f : FileMeaning s) → is_image f ≡ true → get_or s 0 0 ≤ latest - 1 → Accepted older_image s (read_model f)
    by (means_none n) i b = false_true i
    by (means v m l h e) i b =
        ⊎_elim (λ w. absurd (omega (arith, b, w, first_version v m e)))
        (λ w. record { legal = l; plain = w.0; is_image_of = ap (λ (u : ℕ). image_in u m) (sym w.1) ∙ e }) (in_cases v m h)

plain_file : {s : List ℕ} (f : FileMeaning s) (entry : List ℕ) → first_no (back_questions f entry) ≡ not_refused → Accepted image s (read_model f)
plain_file {s} f entry z =
    let y = all_yes (back_questions f entry) (refl, (refl, (refl, (refl, (refl, tt))))) z in
    let b = opens_between latest latest s y.0 in
    by f y.1.1.0 (omega (arith, b)) y.1.1.1.0
  where
    by : (f : FileMeaning s) → is_image f ≡ true → get_or s 0 0 ≡ latest → unversioned (read_model f) ≡ true → Accepted image s (read_model f)
    by (means_none n) i b u = false_true i
    by (means v m l h e) i b u =
        record { legal = l; plain = u; is_image_of = ap (λ (w : ℕ). image_in w m) (sym (first_version v m e ∙ b)) ∙ e }

module _ (m : Model) (l : Legal m) (u : unversioned m ≡ true) (entry : List ℕ) {s exit : List ℕ} {a : Written} where
  -- forward of the older image gives the latest one, and back of this gives that
  pub forward_image : older_image m ≡ s → Forwards s entry a exit → length (image m) ≤ length entry → Puts (image m) entry a exit
  forward_image e p r =
      let f = means (older_version m.regions) m l (older_in m u refl) e in
      let first = first_version (older_version m.regions) m e in
      let o = older_between m.regions in
      let z = admitted oldest (latest - 1) f refl (omega (arith, o.0, first)) (omega (arith, o.1, first)) in
      put_yes (write_questions m entry) (image m) entry (rw (le-leb (length (image m)) (length entry) r) refl)
      (p f ∙ sym (then_asked oldest (latest - 1) (λ x. write_questions x entry) image entry f z))

  pub back_image : image m ≡ s → Backs s entry a exit → length (older_image m) ≤ length entry → Puts (older_image m) entry a exit
  back_image e p r =
      let f = means latest m l refl e in
      let first = first_version latest m e in
      let z = admitted latest latest f refl (omega (arith, first)) (omega (arith, first)) in
      put_yes (older_questions m entry) (older_image m) entry (rw (u, le-leb (length (older_image m)) (length entry) r) refl)
      (p f ∙ sym (then_asked latest latest (λ x. older_questions x entry) older_image entry f z))

-- the questions, of an outcome that goes by them
asked : (qs : List Question) → All (λ q. (q.number ≤ broken_layout) ⊎ (q.number ≡ has_versions)) qs → (t entry : List ℕ) {a : Written} {exit : List ℕ}
    → ◌≡◌ {A = Outcome Written (List ℕ)} (archived a exit) (image_outcome qs t entry) → AskedFirst qs a entry exit
asked qs k t entry {a} {exit} e =
    let o = archived (Written.Bytes (length t)) (written t entry) in
    let n : (written_as a).number ≡ first_no qs =
    ap (λ (x : Outcome Written (List ℕ)). x.returned.number) e ∙ judged_number Written.Refused (first_no qs) o entry refl in
    record {
      first = n;
      known =
          subst (λ (x : ℕ). (x ≤ broken_layout) ⊎ (x ≡ has_versions)) (sym n)
          (first_no_of (λ x. (x ≤ broken_layout) ⊎ (x ≡ has_versions)) (inl (omega arith)) qs k);
      kept = λ u. ap (λ (x : Outcome Written (List ℕ)). x.exit) e ∙ judged_kept Written.Refused (first_no qs) o entry (λ z. u (n ∙ z));
    }

-- back was refused with 21
module _ {s exit : List ℕ} (f : FileMeaning s) (entry : List ℕ) (e : archived (Written.Refused has_versions) exit ≡ back_outcome f entry) where
  number_is : first_no (back_questions f entry) ≡ has_versions
  number_is = sym asked_back.first
    where
      asked_back : AskedFirst (back_questions f entry) (Written.Refused has_versions) entry exit
      asked_back = asked (back_questions f entry)
          (inl (omega arith), (inl (omega arith), (inl (omega arith), (inr refl, (inl (omega arith), tt))))) (older_image (read_model f)) entry e

  refused_so : (get_or s 0 0 ≡ latest) × (is_image f ≡ true) × (unversioned (read_model f) ≡ false)
  refused_so =
      let m = read_model f in
      let qs = questions_between latest latest f in
      let a = not_among qs (older_questions m entry) ((λ z. omega (arith, z)), ((λ z. omega (arith, z)), ((λ z. omega (arith, z)), tt))) number_is in
      let v = opens_between latest latest s a.0.0 in (
        omega (arith, v),
        a.0.1.1.0,
        is_first (ask has_versions (unversioned m)) (place_questions (older_image m) entry) a.1 (no_place_number (older_image m)),
      )
    where
      no_place_number : (t : List ℕ) → first_no (place_questions t entry) ≡ has_versions → ⊥
      no_place_number t z = go (leb (length t) (length entry)) z
        where
          go : (b : Bool) → ◌≡◌ {A = ℕ} (pick b 0 14) has_versions → ⊥
          go true w = omega (arith, w)
          go false w = omega (arith, w)

-- what is known where a conversion reports n bytes
abbrev Put : List Question → List ℕ → List ℕ → List ℕ → ℕ → Type 0
Put qs t entry exit n = (first_no qs ≡ not_refused) × (t ≡ take n exit) × (exit ≡ written t entry)

-- calls that keep the promises
record Promised (forwards backs : Converting) : Type 0 where
  forward_is : {s entry exit : List ℕ} {a : Written} → forwards s entry a exit → Forwards s entry a exit
  back_is : {s entry exit : List ℕ} {a : Written} → backs s entry a exit → Backs s entry a exit

round_trips : {forwards backs : Converting} → Promised forwards backs → RoundTrips forwards backs
round_trips c = record {
  forward_asked = λ {s} {entry} p f.
      asked (forward_questions f entry) (inl (omega arith), (inl (omega arith), (inl (omega arith), (inl (omega arith), tt)))) (image (read_model f)) entry
      (c.forward_is p f);
  back_asked = λ {s} {entry} p f.
      asked (back_questions f entry) (inl (omega arith), (inl (omega arith), (inl (omega arith), (inr refl, (inl (omega arith), tt)))))
      (older_image (read_model f)) entry (c.back_is p f);
  forward_makes = λ {s} {entry} {exit} {n} p.
      let w : (f : FileMeaning s) → Put (forward_questions f entry) (image (read_model f)) entry exit n = λ f.
      image_put (forward_questions f entry) (image (read_model f)) entry exit n (c.forward_is p f) in
      let f = file_meaning s in (
        record {
          puts = (w f).2 ∙ ap (λ (x : List ℕ). written x entry) (w f).1;
          same = λ f g. image_means latest (read_model f) (model_legal f) refl (w f).1 g;
        },
        sym (first_version latest (read_model f) (w f).1),
      );
  back_makes = λ {s} {entry} {exit} {n} p.
      let w : (f : FileMeaning s) → Put (back_questions f entry) (older_image (read_model f)) entry exit n = λ f.
      image_put (back_questions f entry) (older_image (read_model f)) entry exit n (c.back_is p f) in
      let f = file_meaning s in
      let rs = (read_model f).regions in (
        record {
          puts = (w f).2 ∙ ap (λ (x : List ℕ). written x entry) (w f).1;
          same = λ f g.
              image_means (older_version (read_model f).regions) (read_model f) (model_legal f)
              (older_in (read_model f) (plain_file f entry (w f).0).plain refl) (w f).1 g;
        },
        (λ z. omega (arith, z, first_version (older_version rs) (read_model f) (w f).1, (older_between rs).1)),
      );
  forward_back = λ {s} {entry} {exit} {entry'} {exit'} {n} {a} p q r.
      let f = file_meaning s in
      let m = read_model f in
      let w = image_put (forward_questions f entry) (image m) entry exit n (c.forward_is p f) in
      let o = older_file f entry w.0 in
      subst (λ (x : List ℕ). Puts x entry' a exit') o.is_image_of
      (back_image m o.legal o.plain entry' w.1 (c.back_is q) (subst (λ (x : List ℕ). length x ≤ length entry') (sym o.is_image_of) r));
  back_forward = λ {s} {entry} {exit} {entry'} {exit'} {n} {a} p q r.
      let f = file_meaning s in
      let m = read_model f in
      let w = image_put (back_questions f entry) (older_image m) entry exit n (c.back_is p f) in
      let o = plain_file f entry w.0 in
      subst (λ (x : List ℕ). Puts x entry' a exit') o.is_image_of
      (forward_image m o.legal o.plain entry' w.1 (c.forward_is q) (subst (λ (x : List ℕ). length x ≤ length entry') (sym o.is_image_of) r));
  cannot_go_back = λ {s} {entry} {exit} {a} p f v i u.
      let m = read_model f in
      let z = admitted latest latest f i (omega (arith, v)) (omega (arith, v)) in
      let e : archived a exit ≡ archived (Written.Refused has_versions) entry =
      c.back_is p f ∙ sym (then_asked latest latest (λ x. older_questions x entry) older_image entry f z) ∙ sym (older_refused m entry u) in
      ap (λ (x : Outcome Written (List ℕ)). x.answer) e;
  went_not_back = λ {s} {entry} p f. refused_so f entry (c.back_is p f);
  no_older = λ {s} {t} {entry} {exit} p f g i e.
      only_latest g i (subst (λ (x : Model). unversioned x ≡ false) (sym e) (refused_so f entry (c.back_is p f)).2);
}
  where
    only_latest : {r : List ℕ} (g : FileMeaning r) → is_image g ≡ true → unversioned (read_model g) ≡ false → get_or r 0 0 ≡ latest
    only_latest (means_none n) i u = false_true i
    only_latest (means v m l h e) i u = ⊎_elim (λ w. sym (first_version v m e) ∙ w) (λ w. false_true (sym u ∙ w.0)) (in_cases v m h)

-- by value, and what C reads in the number
value_forward : {s entry exit : List ℕ} {a : Written} → ValueForward s entry a exit → Forwards s entry a exit
value_forward (by_forward κs s was out a p) = p

value_back : {s entry exit : List ℕ} {a : Written} → ValueBack s entry a exit → Backs s entry a exit
value_back (by_back κs s was out a p) = p

lent_forward : {s entry exit : List ℕ} {a : Written} → LentForward s entry a exit → Forwards s entry a exit
lent_forward (by_archive_forward κs s was out v p) f =
    read_off written_as written_value written_of (image_whole (forward_questions f was.now) (image (read_model f)) was.now)
    (written_back _ (forward_given f was.now)) (p f)

lent_back : {s entry exit : List ℕ} {a : Written} → LentBack s entry a exit → Backs s entry a exit
lent_back (by_archive_back κs s was out v p) f =
    read_off written_as written_value written_of (image_whole (back_questions f was.now) (older_image (read_model f)) was.now)
    (written_back _ (back_given f was.now)) (p f)

pub round_trips_by_value : RoundTrips ValueForward ValueBack
round_trips_by_value = round_trips (record { forward_is = value_forward; back_is = value_back })

pub round_trips_lent : RoundTrips LentForward LentBack
round_trips_lent = round_trips (record { forward_is = lent_forward; back_is = lent_back })
