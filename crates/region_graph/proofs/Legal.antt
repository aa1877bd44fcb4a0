-- The model keeps all that document 01 says of R, B and F.
use mathlib.Core.Path.{◌≡◌, refl, sym, ap, ◌∙◌}
use mathlib.Core.Bool.{Bool, true, false, not, ◌||◌}
use mathlib.Core.List.{List, [], ◌∷◌, ◌++◌}
use Prim.Native.Nat.{ℕ, ◌+◌, ◌≤◌, ◌<◌}
use native.Mathlib.Omega.{arith}
use lib.Dec.{eqb, ltb}
use lib.ListN.{length}
use borrow.Author.Tests.{leb-true, ltb-true, lt-ltb, eqb-true, eqb-false, ne_eqb, not-true}
use Rattle.region_graph.specs.Size.{regions, most_bundles, most_connections, most_provided, most_listed}
use Rattle.region_graph.specs.Refusals.{not_refused}
use Rattle.region_graph.specs.Lists.{pick, keep, exists, every, All, member, insert_by, ascends}
use Rattle.region_graph.specs.Model.{Word, PackageFits, EntryFits, LegalEntry, Sorted, SortedPart, LegalBundle, LegalConnection, Legal}
use Rattle.region_graph.specs.Model.{Model, PackageEntry, Bundle, Part, Connection}
use Rattle.region_graph.specs.Model.{nothing, package_before, entry_before, ordered}
use Rattle.region_graph.specs.Calls.{Call, Question, first_no, end_questions, questions, number, accepted, after, run, is_region, at_location}
use Rattle.region_graph.specs.Calls.{in_region, joins, touches, within, of_listed, part_within}
use Rattle.region_graph.specs.Places.{ShortPart}
use Rattle.region_graph.specs.Promise.{new_part}
use Rattle.region_graph.proofs.Lists.{eqb_sym, and_fst, and_snd, false_true, pick_yes, keep_length, exists_insert, insert_length, exists_none}
use Rattle.region_graph.proofs.Lists.{all_map, all_kept, all_insert, keep_all, member_all, other_member, member_kept, and_yes}
use Rattle.region_graph.proofs.Ascending.{Strict, Rising, or_right, ascends_rising, ascends_keep, ascends_insert, strict_numbers, strict_bundles}
use Rattle.region_graph.proofs.Ascending.{strict_connections, numbers_differ, connections_differ}

-- the locations and listed numbers that a call is handed have 32 bits, and the versions 16
abbrev pub PartAll : {A : Type 0} → (A → Type 0) → Part A → Type 0
PartAll P (Part.listed xs) = All P xs
PartAll P Part.everything = Unit {0}

abbrev pub Words : Call → Type 0
Words (Call.add_region r) = Unit {0}
Words (Call.remove_region r) = Unit {0}
Words (Call.install b) = Word b.location × All PackageFits b.packages × All Word b.services
Words (Call.uninstall l) = Unit {0}
Words (Call.connect c) = All Word c.filter.bundles × PartAll EntryFits c.filter.packages × PartAll Word c.filter.services
Words (Call.disconnect r s) = Unit {0}

-- neither of two tests
not_or : (a b : Bool) → not (a || b) ≡ true → (not a ≡ true) × (not b ≡ true)
not_or true b e = false_true e
not_or false b e = (refl, e)

-- no refusal: each question is answered yes
pub all_yes : (qs : List Question) → All (λ q. eqb q.number not_refused ≡ false) qs → first_no qs ≡ not_refused → All (λ q. q.yes ≡ true) qs
all_yes [] n e = tt
all_yes (q ∷ qs) n e = go q.yes refl (all_yes qs n.1) e
  where
    go : (b : Bool) → q.yes ≡ b → (first_no qs ≡ not_refused → All (λ q. q.yes ≡ true) qs) → pick b (first_no qs) q.number ≡ not_refused
        → (q.yes ≡ true) × All (λ q. q.yes ≡ true) qs
    go true h r k = (h, r k)
    go false h r k = absurd (eqb-false q.number not_refused n.0 k)

-- questions that follow others
pub first_no_stops : (qs rs : List Question) {k : ℕ} → first_no qs ≡ k → eqb k not_refused ≡ false → first_no (qs ++ rs) ≡ k
first_no_stops [] rs {k} e n = absurd (eqb-false k not_refused n (sym e))
first_no_stops (q ∷ qs) rs {k} e n = go q.yes (λ f. first_no_stops qs rs f n) e
  where
    go : (b : Bool) → (first_no qs ≡ k → first_no (qs ++ rs) ≡ k) → pick b (first_no qs) q.number ≡ k
        → pick b (first_no (qs ++ rs)) q.number ≡ k
    go true f h = f h
    go false f h = h

pub first_no_goes_on : (qs rs : List Question) → All (λ q. q.yes ≡ true) qs → first_no (qs ++ rs) ≡ first_no rs
first_no_goes_on [] rs h = refl
first_no_goes_on (q ∷ qs) rs h = pick_yes (first_no (qs ++ rs)) q.number h.0 ∙ first_no_goes_on qs rs h.1

-- questions put in two steps, the later ones where the first give no refusal
module _ (qs rs : List Question) (n : All (λ q. eqb q.number not_refused ≡ false) qs) {k : ℕ} (e : k ≡ first_no qs) where
  pub first_step : (k ≡ not_refused → ⊥) → k ≡ first_no (qs ++ rs)
  first_step u = sym (first_no_stops qs rs (sym e) (ne_eqb k not_refused u))

  pub second_step : k ≡ not_refused → {j : ℕ} → j ≡ first_no rs → j ≡ first_no (qs ++ rs)
  second_step z f = f ∙ sym (first_no_goes_on qs rs (all_yes qs n (sym e ∙ z)))

-- what an accepted install has passed
pub record Installable (m : Model) (b : Bundle) : Type 0 where
  pub region : member b.region m.regions ≡ true
  pub few_packages : length b.packages ≤ most_provided
  pub few_services : length b.services ≤ most_provided
  pub packages_ascend : ascends package_before b.packages ≡ true
  pub services_ascend : ascends ltb b.services ≡ true
  pub absent : exists (at_location b.location) m.bundles ≡ false
  pub room : length m.bundles < most_bundles

pub installable : (m : Model) (b : Bundle) → number m (Call.install b) ≡ not_refused → Installable m b
installable m b e =
    let h = all_yes (questions m (Call.install b)) (refl, (refl, (refl, (refl, (refl, (refl, (refl, tt))))))) e in
    record {
      region = h.1.0;
      few_packages = leb-true _ _ (and_fst (within most_provided b.packages) _ h.1.1.0);
      few_services = leb-true _ _ (and_snd (within most_provided b.packages) _ h.1.1.0);
      packages_ascend = and_fst (ascends package_before b.packages) _ h.1.1.1.0;
      services_ascend = and_snd (ascends package_before b.packages) _ h.1.1.1.0;
      absent = not-true _ h.1.1.1.1.0;
      room = ltb-true _ _ h.1.1.1.1.1.1.0;
    }

-- what an accepted connect has passed
pub record Connectable (m : Model) (c : Connection) : Type 0 where
  pub source : member c.source m.regions ≡ true
  pub target : member c.target m.regions ≡ true
  pub differ : eqb c.source c.target ≡ false
  pub absent : exists (joins c.source c.target) m.connections ≡ false
  pub bundles_few : length c.filter.bundles ≤ most_listed
  pub packages_within : part_within c.filter.packages ≡ true
  pub services_within : part_within c.filter.services ≡ true
  pub bundles_ascend : ascends ltb c.filter.bundles ≡ true
  pub packages_ascend : of_listed (ascends entry_before) c.filter.packages ≡ true
  pub services_ascend : of_listed (ascends ltb) c.filter.services ≡ true
  pub packages_ordered : of_listed (every ordered) c.filter.packages ≡ true
  pub room : length m.connections < most_connections

pub connectable : (m : Model) (c : Connection) → number m (Call.connect c) ≡ not_refused → Connectable m c
connectable m c e =
    let h = all_yes (questions m (Call.connect c)) (refl, (refl, (refl, (refl, (refl, (refl, (refl, (refl, tt)))))))) e in
    let few = h.1.1.1.1.0 in
    let ascend = h.1.1.1.1.1.0 in
    let parts_few = and_snd (within most_listed c.filter.bundles) _ few in
    let parts_ascend = and_snd (ascends ltb c.filter.bundles) _ ascend in
    record {
      source = and_fst (member c.source m.regions) _ h.1.0;
      target = and_snd (member c.source m.regions) _ h.1.0;
      differ = not-true _ h.1.1.0;
      absent = not-true _ h.1.1.1.0;
      bundles_few = leb-true _ _ (and_fst (within most_listed c.filter.bundles) _ few);
      packages_within = and_fst (part_within c.filter.packages) _ parts_few;
      services_within = and_snd (part_within c.filter.packages) _ parts_few;
      bundles_ascend = and_fst (ascends ltb c.filter.bundles) _ ascend;
      packages_ascend = and_fst (of_listed (ascends entry_before) c.filter.packages) _ parts_ascend;
      services_ascend = and_snd (of_listed (ascends entry_before) c.filter.packages) _ parts_ascend;
      packages_ordered = h.1.1.1.1.1.1.0;
      room = ltb-true _ _ h.1.1.1.1.1.1.1.0;
    }

-- some elements of a set leave, or one joins
module _ {A : Type 0} {most : ℕ} {before : A → A → Bool} {xs : List A} where
  sorted_map : (P Q : A → Type 0) → ((x : A) → P x → Q x) → Sorted before P most xs → Sorted before Q most xs
  sorted_map P Q f k = record { few = k.few; each = all_map P Q f xs k.each; ascend = k.ascend }

  module _ (strict : Strict before) where
    sorted_keep : (p : A → Bool) (P Q : A → Type 0) → ((x : A) → p x ≡ true → P x → Q x) → Sorted before P most xs → Sorted before Q most (keep p xs)
    sorted_keep p P Q f k =
        record {
          few = omega (arith, keep_length p xs, k.few);
          each = all_kept p P Q f xs k.each;
          ascend = ascends_keep before strict p xs k.ascend;
        }

    -- an element joins, unlike all others by a test
    sorted_insert : (P : A → Type 0) (x : A) (same : A → Bool) → ((y : A) → same y ≡ false → before x y ≡ false → before y x ≡ true)
        → P x → exists same xs ≡ false → length (insert_by before x xs) ≤ most → Sorted before P most xs → Sorted before P most (insert_by before x xs)
    sorted_insert P x same differ h absent room k =
        record {
          few = room;
          each = all_insert P before x xs h k.each;
          ascend =
              ascends_insert before strict x xs
              (all_map (λ y. same y ≡ false) (λ y. before x y ≡ false → before y x ≡ true) differ xs (exists_none same xs absent)) k.ascend;
        }

-- ascending numbers below a limit are no more than it
few_below : (n a : ℕ) (xs : List ℕ) → All (λ x. x < n) xs → Rising ltb xs → All (λ x. a ≤ x) xs → a ≤ n → length xs + a ≤ n
few_below n a [] h r f l = omega (arith, l)
few_below n a (x ∷ xs) h r f l =
    let above = all_map (λ y. ltb x y ≡ true) (λ y. x + 1 ≤ y) (λ y e. omega (arith, ltb-true x y e)) xs r.0 in
    omega (arith, few_below n (x + 1) xs h.1 r.1 above (omega (arith, h.0)), f.0)

pub below_sorted : {n : ℕ} {xs : List ℕ} → All (λ x. x < n) xs → ascends ltb xs ≡ true → Sorted ltb (λ x. x < n) n xs
below_sorted {n} {xs} h a =
    let above = all_map (λ x. x < n) (λ x. 0 ≤ x) (λ x l. omega arith) xs h in
    record {
      few = omega (arith, few_below n 0 xs h (ascends_rising ltb strict_numbers xs a) above (omega arith));
      each = h;
      ascend = a;
    }

-- a bundle or a connection stays legal where its regions stay
module _ (rs ts : List ℕ) where
  legal_bundle : (b : Bundle) → (member b.region rs ≡ true → member b.region ts ≡ true) → LegalBundle rs b → LegalBundle ts b
  legal_bundle b f h = record { location = h.location; region = f h.region; packages = h.packages; services = h.services }

  legal_connection : (c : Connection) → (member c.source rs ≡ true → member c.source ts ≡ true)
      → (member c.target rs ≡ true → member c.target ts ≡ true) → LegalConnection rs c → LegalConnection ts c
  legal_connection c f g h = record { source = f h.source; target = g h.target; differ = h.differ; filter = h.filter }

-- a part of a filter that was handed over
sorted_part : {A : Type 0} (before : A → A → Bool) (Good : A → Type 0) (p : Part A) → PartAll Good p → part_within p ≡ true
    → of_listed (ascends before) p ≡ true → SortedPart before Good p
sorted_part before Good (Part.listed xs) w f a = record { few = leb-true (length xs) most_listed f; each = w; ascend = a }
sorted_part before Good Part.everything w f a = tt

-- entries that fit, each in order
entries_legal : (es : List PackageEntry) → All EntryFits es → every ordered es ≡ true → All LegalEntry es
entries_legal [] w o = tt
entries_legal (e ∷ es) w o =
    (record { fits = w.0; order = and_fst (ordered e) (every ordered es) o }, entries_legal es w.1 (and_snd (ordered e) (every ordered es) o))

legal_entries : (p : Part PackageEntry) → PartAll EntryFits p → of_listed (every ordered) p ≡ true → PartAll LegalEntry p
legal_entries (Part.listed es) w o = entries_legal es w o
legal_entries Part.everything w o = tt

pub legal_nothing : Legal nothing
legal_nothing = record { regions_legal = none; bundles_legal = none; connections_legal = none }
  where
    none : {A : Type 0} {before : A → A → Bool} {P : A → Type 0} {most : ℕ} → Sorted before P most []
    none = record { few = omega arith; each = tt; ascend = refl }

-- an accepted call
pub legal_accepted : (m : Model) (c : Call) → Legal m → Words c → number m c ≡ not_refused → Legal (accepted m c)
legal_accepted m (Call.add_region r) l w e =
    let h = all_yes (questions m (Call.add_region r)) (refl, (refl, tt)) e in
    record {
      regions_legal =
          below_sorted
          (all_insert (λ s. s < regions) ltb r m.regions (ltb-true r regions h.0) l.regions_legal.each)
          (ascends_insert ltb strict_numbers r m.regions
          (all_map (λ s. eqb r s ≡ false) (λ s. ltb r s ≡ false → ltb s r ≡ true) (λ s n. numbers_differ r s (eqb-false r s n)) m.regions
          (exists_none (eqb r) m.regions (not-true _ h.1.0))) l.regions_legal.ascend);
      bundles_legal =
          sorted_map (LegalBundle m.regions) (LegalBundle rs) (λ b. legal_bundle m.regions rs b (stays b.region)) l.bundles_legal;
      connections_legal =
          sorted_map (LegalConnection m.regions) (LegalConnection rs)
          (λ c. legal_connection m.regions rs c (stays c.source) (stays c.target)) l.connections_legal;
    }
  where
    rs : List ℕ
    rs = insert_by ltb r m.regions

    stays : (n : ℕ) → member n m.regions ≡ true → member n rs ≡ true
    stays n h = exists_insert (eqb n) ltb r m.regions ∙ or_right (eqb n r) h
legal_accepted m (Call.remove_region r) l w e =
    record {
      regions_legal = sorted_keep strict_numbers other (λ s. s < regions) (λ s. s < regions) (λ s _ h. h) l.regions_legal;
      bundles_legal =
          sorted_keep strict_bundles (λ b. not (in_region r b)) (LegalBundle m.regions) (LegalBundle rs)
          (λ b t. legal_bundle m.regions rs b (stays b.region t)) l.bundles_legal;
      connections_legal =
          sorted_keep strict_connections (λ c. not (touches r c)) (LegalConnection m.regions) (LegalConnection rs)
          (λ c t. let n = not_or (eqb c.source r) (eqb c.target r) t in
          legal_connection m.regions rs c (stays c.source n.0) (stays c.target n.1)) l.connections_legal;
    }
  where
    other : ℕ → Bool
    other s = not (eqb r s)

    rs : List ℕ
    rs = keep other m.regions

    stays : (n : ℕ) → not (eqb n r) ≡ true → member n m.regions ≡ true → member n rs ≡ true
    stays n t h = member_kept other n m.regions ∙ and_yes h (ap not (eqb_sym r n) ∙ t)
legal_accepted m (Call.install b) l w e =
    let h = installable m b e in
    record {
      regions_legal = l.regions_legal;
      bundles_legal =
          sorted_insert strict_bundles (LegalBundle m.regions) b (at_location b.location)
          (λ c n. numbers_differ b.location c.location (λ q. eqb-false c.location b.location n (sym q)))
          (record {
            location = w.0;
            region = h.region;
            packages = record { few = h.few_packages; each = w.1; ascend = h.packages_ascend };
            services = record { few = h.few_services; each = w.2; ascend = h.services_ascend };
          })
          h.absent (rw insert_length h.room) l.bundles_legal;
      connections_legal = l.connections_legal;
    }
legal_accepted m (Call.uninstall n) l w e =
    record {
      regions_legal = l.regions_legal;
      bundles_legal =
          sorted_keep strict_bundles (λ b. not (at_location n b)) (LegalBundle m.regions) (LegalBundle m.regions) (λ b _ h. h) l.bundles_legal;
      connections_legal = l.connections_legal;
    }
legal_accepted m (Call.connect c) l w e =
    let h = connectable m c e in
    record {
      regions_legal = l.regions_legal;
      bundles_legal = l.bundles_legal;
      connections_legal =
          sorted_insert strict_connections (LegalConnection m.regions) c (joins c.source c.target) (connections_differ c)
          (record {
            source = h.source;
            target = h.target;
            differ = h.differ;
            filter = record {
              bundles = record { few = h.bundles_few; each = w.0; ascend = h.bundles_ascend };
              packages =
                  sorted_part entry_before LegalEntry c.filter.packages (legal_entries c.filter.packages w.1 h.packages_ordered)
                  h.packages_within h.packages_ascend;
              services = sorted_part ltb Word c.filter.services w.2 h.services_within h.services_ascend;
            };
          })
          h.absent (rw insert_length h.room) l.connections_legal;
    }
legal_accepted m (Call.disconnect r s) l w e =
    record {
      regions_legal = l.regions_legal;
      bundles_legal = l.bundles_legal;
      connections_legal =
          sorted_keep strict_connections (λ c. not (joins r s c)) (LegalConnection m.regions) (LegalConnection m.regions) (λ c _ h. h)
          l.connections_legal;
    }

pub legal_after : (m : Model) (c : Call) → Legal m → Words c → Legal (after m c)
legal_after m c l w = go (eqb (number m c) not_refused) refl
  where
    go : (b : Bool) → eqb (number m c) not_refused ≡ b → Legal (pick b (accepted m c) m)
    go true e = legal_accepted m c l w (eqb-true (number m c) not_refused e)
    go false e = l

pub legal_run : (m : Model) (cs : List Call) → Legal m → All Words cs → Legal (run m cs)
legal_run m [] l w = l
legal_run m (c ∷ cs) l w = legal_run (after m c) cs (legal_after m c l w.0) w.1

-- where an add is refused, a region is there already, or the number is no region's
pub add_idle : (m : Model) (r : ℕ) → (number m (Call.add_region r) ≡ not_refused → ⊥) → r < regions → member r m.regions ≡ true
add_idle m r u h = go (member r m.regions) refl
  where
    go : (b : Bool) → member r m.regions ≡ b → b ≡ true
    go true e = refl
    go false e = absurd (u (rw (lt-ltb r regions h, e)))

-- where an uninstall is refused, no bundle leaves
pub uninstall_idle : (m : Model) (n : ℕ) → (number m (Call.uninstall n) ≡ not_refused → ⊥) → accepted m (Call.uninstall n) ≡ m
uninstall_idle m n u =
    let h = absent (exists (at_location n) m.bundles) refl in
    λ i. record { regions = m.regions; bundles = keep_all (at_location n) m.bundles h i; connections = m.connections }
  where
    absent : (b : Bool) → exists (at_location n) m.bundles ≡ b → All (λ b. at_location n b ≡ false) m.bundles
    absent true e = absurd (u (rw e))
    absent false e = exists_none (at_location n) m.bundles e

-- a legal model has nothing for a refused remove or disconnect to take away
module _ (m : Model) (l : Legal m) where
  region_below : (r : ℕ) → member r m.regions ≡ true → is_region r ≡ true
  region_below r h = lt-ltb r regions (member_all (λ s. s < regions) r m.regions l.regions_legal.each h)

  -- nothing is in a region that is not there, or touches it
  none_in : (r : ℕ) → member r m.regions ≡ false → All (λ b. in_region r b ≡ false) m.bundles
  none_in r k =
      all_map (LegalBundle m.regions) (λ b. in_region r b ≡ false) (λ b h. other_member b.region r m.regions h.region k)
      m.bundles l.bundles_legal.each

  none_touches : (r : ℕ) → member r m.regions ≡ false → All (λ c. touches r c ≡ false) m.connections
  none_touches r k =
      all_map (LegalConnection m.regions) (λ c. touches r c ≡ false)
      (λ c h. rw (other_member c.source r m.regions h.source k, other_member c.target r m.regions h.target k)) m.connections
      l.connections_legal.each

  -- a connection's ends pass the questions, so ends that are refused join nothing
  ends_pass : (c : Connection) → LegalConnection m.regions c → first_no (end_questions m.regions c.source c.target) ≡ not_refused
  ends_pass c h = rw (region_below c.source h.source, region_below c.target h.target, h.source, h.target, h.differ)

  none_joins : (r s : ℕ) → (first_no (end_questions m.regions r s) ≡ not_refused → ⊥) → All (λ c. joins r s c ≡ false) m.connections
  none_joins r s u =
      all_map (LegalConnection m.regions) (λ c. joins r s c ≡ false) (λ c h. go c h (joins r s c) refl) m.connections
      l.connections_legal.each
    where
      go : (c : Connection) → LegalConnection m.regions c → (b : Bool) → joins r s c ≡ b → b ≡ false
      go c h true e =
          let p : c.source ≡ r = eqb-true c.source r (and_fst (eqb c.source r) (eqb c.target s) e) in
          let q : c.target ≡ s = eqb-true c.target s (and_snd (eqb c.source r) (eqb c.target s) e) in
          absurd (u ((λ i. first_no (end_questions m.regions (sym p i) (sym q i))) ∙ ends_pass c h))
      go c h false e = refl

  pub remove_idle : (r : ℕ) → (number m (Call.remove_region r) ≡ not_refused → ⊥) → accepted m (Call.remove_region r) ≡ m
  remove_idle r u =
      let k = absent (member r m.regions) refl in
      λ i. record {
        regions = keep_all (eqb r) m.regions (exists_none (eqb r) m.regions k) i;
        bundles = keep_all (in_region r) m.bundles (none_in r k) i;
        connections = keep_all (touches r) m.connections (none_touches r k) i;
      }
    where
      absent : (b : Bool) → member r m.regions ≡ b → member r m.regions ≡ false
      absent true e = absurd (u (rw (region_below r e, e)))
      absent false e = e

  pub disconnect_idle : (r s : ℕ) → (number m (Call.disconnect r s) ≡ not_refused → ⊥) → accepted m (Call.disconnect r s) ≡ m
  disconnect_idle r s u =
      let h = absent (exists (joins r s) m.connections) refl in
      λ i. record { regions = m.regions; bundles = m.bundles; connections = keep_all (joins r s) m.connections h i }
    where
      absent : (b : Bool) → exists (joins r s) m.connections ≡ b → All (λ c. joins r s c ≡ false) m.connections
      absent true e =
          none_joins r s
          (λ z. let h = all_yes (end_questions m.regions r s) (refl, (refl, (refl, tt))) z in u (rw (h.0, h.1.0, h.1.1.0, e)))
      absent false e = exists_none (joins r s) m.connections e

-- a part that was handed over as a flag and a list
pub part_each : {A : Type 0} (P : A → Type 0) (all : Bool) (xs : List A) → All P xs → PartAll P (new_part all xs)
part_each P true xs h = tt
part_each P false xs h = h

-- a part that is within its count
pub part_short : {A : Type 0} (p : Part A) → part_within p ≡ true → ShortPart p
part_short (Part.listed xs) e = leb-true (length xs) most_listed e
part_short Part.everything e = tt
