-- What the queries answer is told apart by its number: counts are below 2^63 where the lists are, and numbers are those of the questions.
use mathlib.Core.Path.{◌≡◌, refl, ap}
use mathlib.Core.Bool.{Bool, true, false}
use mathlib.Core.List.{List, [], ◌∷◌}
use mathlib.Core.Option.{Option, some, none}
use Rattle.std.specs.Prelude.{Option as Maybe, Some, None}
use native.Mathlib.Omega.{arith}
use Prim.Native.Nat.{ℕ, zero, suc, ◌+◌, ◌<◌, ◌≤◌}
use lib.Dec.{eqb}
use lib.ListN.{length}
use borrow.Author.Tests.{eqb-false}
use Rattle.region_graph.specs.Size.{regions}
use Rattle.region_graph.specs.Refusals.{not_refused}
use Rattle.region_graph.specs.Lists.{pick, keep, All, count_from}
use Rattle.region_graph.specs.Model.{Model, Legal}
use Rattle.region_graph.specs.Items.{holds, crosses}
use Rattle.region_graph.specs.Calls.{Question, first_no}
use Rattle.region_graph.specs.Promise.{place_of}
use Rattle.region_graph.specs.declared.Item.{Item}
use Rattle.region_graph.proofs.Lists.{keep_length}
use Rattle.region_routes.specs.Chosen.{first_of, put_before, guarded, or_else, exactly, from, chosen_by, chosen}
use Rattle.region_routes.specs.Hooks.{Routed, Kept}
use Rattle.region_routes.specs.Hooks.{Outcome, kind_number, item, written, kept, judged, shown, shown_from, sees_from, route_questions, find_questions}
use Rattle.region_routes.specs.Hooks.{event_questions, route_outcome, find_outcome, event_outcome}
use Rattle.region_routes.specs.declared.resolver.Candidate.{Candidate}
use Rattle.region_routes.specs.Resolve.{parts, offered_from, resolve_questions, written_each, resolve_outcome}
use Rattle.region_routes.specs.declared.Kind.{Kind}
use Rattle.region_archive.specs.Image.{image, older_image}
use Rattle.region_archive.specs.File.{FileMeaning, read_model}
use Rattle.region_archive.specs.Promise.{Written, archived, image_outcome, write_questions, write_outcome}
use Rattle.region_archive.proofs.OneImage.{image_bound, older_bound}
use Rattle.region_archive.proofs.Meaning.{model_legal}
use Rattle.region_convert.specs.Conversion.{forward_questions, back_questions, forward_outcome, back_outcome}
use Rattle.region_host.specs.CNumbers.{CountFits}
use Rattle.region_host.proofs.ReadBack.{PaperNumber, RoutedGiven, KeptGiven, WrittenGiven}

-- the first question answered no has a number of theirs
pub first_no_of : (P : ℕ → Type 0) → P not_refused → (qs : List Question) → All (λ q. P q.number) qs → P (first_no qs)
first_no_of P z [] a = z
first_no_of P z (q ∷ qs) a = go q.yes (first_no_of P z qs a.1)
  where
    go : (b : Bool) → P (first_no qs) → P (pick b (first_no qs) q.number)
    go true h = h
    go false h = a.0

pub first_no_within : (most : ℕ) (qs : List Question) → All (λ q. q.number ≤ most) qs → first_no qs ≤ most
first_no_within most qs a = first_no_of (λ n. n ≤ most) (omega arith) qs a

positive : (n : ℕ) → (n ≡ 0 → ⊥) → 0 < n
positive zero u = absurd (u refl)
positive (suc n) u = omega arith

pub judged_given : {A E : Type 0} (Given : A → Type 0) (refused : ℕ → A) → ((n : ℕ) → PaperNumber n → Given (refused n)) → (n : ℕ) → n ≤ 100
    → (o : Outcome A E) → Given o.answer → (entry : E) → Given (judged refused n o entry).answer
judged_given Given refused r n h o g entry = go (eqb n not_refused) refl
  where
    go : (b : Bool) → eqb n not_refused ≡ b
        → Given (pick b o (record { answer = refused n; returned = record { number = n; values = [] }; exit = entry })).answer
    go true e = g
    go false e = r n (positive n (eqb-false n not_refused e), h)

-- a route of exactly k connections has k + 1 regions
abbrev OfLength : ℕ → Option (List ℕ) → Type 0
OfLength n none = Unit {0}
OfLength n (some p) = length p ≡ n

guarded_long : (n : ℕ) (b : Bool) (o : Option (List ℕ)) → OfLength n o → OfLength n (guarded b o)
guarded_long n true o h = h
guarded_long n false o h = tt

before_long : (n r : ℕ) (o : Option (List ℕ)) → OfLength n o → OfLength (suc n) (put_before r o)
before_long n r none h = tt
before_long n r (some p) h = ap suc h

first_long : (n : ℕ) (f : ℕ → Option (List ℕ)) → ((s : ℕ) → OfLength n (f s)) → (ss : List ℕ) → OfLength n (first_of f ss)
first_long n f h [] = tt
first_long n f h (s ∷ ss) = go (f s) (h s) (first_long n f h ss)
  where
    go : (o : Option (List ℕ)) → OfLength n o → OfLength n (first_of f ss) → OfLength n (elim o [ none ↦ first_of f ss | some p ↦ some p ])
    go none l later = later
    go (some p) l later = l

-- so the chosen one has at most as many regions as there are
abbrev AtMostRegions : Option (List ℕ) → Type 0
AtMostRegions none = Unit {0}
AtMostRegions (some p) = length p ≤ regions

module _ (cross : ℕ → ℕ → Bool) (ends : ℕ → Bool) where
  exactly_long : (k r : ℕ) → OfLength (suc k) (exactly cross ends k r)
  exactly_long zero r = guarded_long 1 (ends r) (some (r ∷ [])) refl
  exactly_long (suc k) r =
      before_long (suc k) r (first_of (λ s. guarded (cross r s) (exactly cross ends k s)) (count_from 0 regions))
      (first_long (suc k) (λ s. guarded (cross r s) (exactly cross ends k s)) (λ s. guarded_long (suc k) (cross r s) (exactly cross ends k s)
      (exactly_long k s)) (count_from 0 regions))

  from_short : (r k n : ℕ) → k + n ≤ regions → AtMostRegions (from cross ends r k n)
  from_short r k zero h = tt
  from_short r k (suc n) h = go (exactly cross ends k r) (exactly_long k r) (from_short r (suc k) n (omega (arith, h)))
    where
      go : (o : Option (List ℕ)) → OfLength (suc k) o → AtMostRegions (from cross ends r (suc k) n) → AtMostRegions (or_else o (from cross ends r (suc k) n))
      go none l later = later
      go (some p) l later = omega (arith, l, h)

chosen_short : (m : Model) (i : Item) (r : ℕ) → AtMostRegions (chosen m i r)
unfolding chosen chosen_by
chosen_short m i r = from_short (crosses m i) (holds m i) r 0 regions (omega arith)

shown_given : (o : Option (List ℕ)) (entry : List ℕ) → AtMostRegions o → RoutedGiven (shown o entry).answer
shown_given none entry h = tt
shown_given (some p) entry h = omega (arith, h)

shown_from_given : (m : Model) (i : Item) (p : Maybe ℕ) (entry : List ℕ) → RoutedGiven (shown_from m i p entry).answer
shown_from_given m i (Some r) entry = shown_given (chosen m i r) entry (chosen_short m i r)
shown_from_given m i None entry = tt

pub route_given : (m : Model) (l kind number version : ℕ) (entry : List ℕ) → RoutedGiven (route_outcome m l kind number version entry).answer
route_given m l kind number version entry =
    judged_given RoutedGiven Routed.Refused (λ n g. g) (first_no (route_questions m l kind entry))
    (first_no_within 100 (route_questions m l kind entry) (omega arith, (omega arith, (omega arith, tt))))
    (shown_from m (item kind number version) (place_of m.bundles l) entry)
    (shown_from_given m (item kind number version) (place_of m.bundles l) entry) entry

-- no more are kept than there are
kept_given : {X E : Type 0} (n : ℕ) → n ≤ 100 → (p : X → Bool) (xs : List X) (exit entry : E) → CountFits (length xs)
    → KeptGiven (judged Kept.Refused n (kept (Kept.Wrote (length (keep p xs))) exit) entry).answer
kept_given n h p xs exit entry c =
    judged_given KeptGiven Kept.Refused (λ n g. g) n h (kept (Kept.Wrote (length (keep p xs))) exit) (omega (arith, keep_length p xs, c)) entry

pub find_given : (m : Model) (k : Kind) (l : ℕ) (xs entry : List ℕ) → CountFits (length xs) → KeptGiven (find_outcome m k l xs entry).answer
find_given m k l xs entry c =
    let sees : ℕ → Bool = λ n. sees_from m (item (kind_number k) n 0) (place_of m.bundles l) in
    kept_given (first_no (find_questions m l xs entry)) (first_no_within 100 (find_questions m l xs entry) (omega arith, (omega arith, tt)))
    sees xs (written (keep sees xs) entry) entry c

pub event_given : (m : Model) (k : Kind) (xs : List ℕ) (number : ℕ) (entry : List ℕ) → CountFits (length xs)
    → KeptGiven (event_outcome m k xs number entry).answer
event_given m k xs number entry c =
    let sees : ℕ → Bool = λ l. sees_from m (item (kind_number k) number 0) (place_of m.bundles l) in
    kept_given (first_no (event_questions m xs entry)) (first_no_within 100 (event_questions m xs entry) (omega arith, (omega arith, tt)))
    sees xs (written (keep sees xs) entry) entry c

pub resolve_given : (m : Model) (l : ℕ) (cs : List Candidate) (entries : List (List ℕ)) → CountFits (length cs)
    → KeptGiven (resolve_outcome m l cs entries).answer
resolve_given m l cs entries f =
    let offers : Candidate → Bool = λ c. offered_from m c (place_of m.bundles l) in
    kept_given (first_no (resolve_questions m l cs entries)) (first_no_within 100 (resolve_questions m l cs entries) (omega arith, (omega arith, tt)))
    offers cs (written_each (parts (keep offers cs)) entries) entries f

pub image_given : (qs : List Question) → All (λ q. q.number ≤ 100) qs → (s entry : List ℕ) → CountFits (length s)
    → WrittenGiven (image_outcome qs s entry).answer
image_given qs a s entry h =
    judged_given WrittenGiven Written.Refused (λ n g. g) (first_no qs) (first_no_within 100 qs a)
    (archived (Written.Bytes (length s)) (written s entry)) h entry

pub write_given : (m : Model) → Legal m → (entry : List ℕ) → WrittenGiven (write_outcome m entry).answer
write_given m h entry = image_given (write_questions m entry) (omega arith, tt) (image m) entry (omega (arith, image_bound m h))

pub forward_given : {s : List ℕ} (f : FileMeaning s) (entry : List ℕ) → WrittenGiven (forward_outcome f entry).answer
forward_given f entry =
    image_given (forward_questions f entry) (omega arith, (omega arith, (omega arith, (omega arith, tt)))) (image (read_model f)) entry
    (omega (arith, image_bound (read_model f) (model_legal f)))

pub back_given : {s : List ℕ} (f : FileMeaning s) (entry : List ℕ) → WrittenGiven (back_outcome f entry).answer
back_given f entry =
    image_given (back_questions f entry) (omega arith, (omega arith, (omega arith, (omega arith, (omega arith, tt))))) (older_image (read_model f)) entry
    (omega (arith, older_bound (read_model f) (model_legal f)))
