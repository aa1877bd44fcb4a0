-- The versions of an image: they are read, a set of regions tells the older ones, and what a model with an image of a version has in its sections.
use mathlib.Core.Path.{◌≡◌, refl, sym, ap, ◌∙◌}
use mathlib.Core.Bool.{Bool, true, false, ◌&&◌, ◌||◌}
use mathlib.Core.List.{List, [], ◌∷◌}
use mathlib.Core.Logic.{◌⊎◌, inl, inr, ⊎_elim}
use Prim.Native.Nat.{ℕ, ◌≤◌, ◌<◌, ◌^◌}
use native.Mathlib.Omega.{arith}
use lib.Dec.{eqb, leb, ltb}
use lib.ListN.{length}
use borrow.Author.Tests.{lt-leb, le-leb, leb-false, eqb-true, eq-eqb, ne_eqb}
use Rattle.region_graph.specs.Size.{regions}
use Rattle.region_graph.specs.Lists.{pick, exists, every, All, ascends, member, count_from}
use Rattle.region_graph.specs.Sets.{has, members}
use Rattle.region_graph.specs.Model.{Model, Sorted, LegalBundle, LegalConnection}
use Rattle.region_graph.specs.Decoded.{GoodRegions}
use Rattle.region_graph.proofs.Bits.{in_lt, high_in}
use Rattle.region_graph.proofs.Ascending.{or_right, none_any, members_back}
use Rattle.region_graph.proofs.Lists.{and_yes, and_fst, and_snd, keep_length, all_map, all_both, all_every, every_all, all_kept, exists_none, member_all}
use Rattle.region_graph.proofs.Storing.{all_counted, has_member}
use Rattle.region_routes.proofs.SetLaws.{has_in, in_has}
use Rattle.region_archive.specs.Image.{latest, early_regions, older_version, plain_bundle, plain_connection, unversioned, in_version}
use Rattle.region_archive.specs.File.{oldest}
use Rattle.region_archive.specs.RecordFields.{Elem, LegalElems, elements}
use Rattle.region_archive.specs.Sections.{LegalIn}
use Rattle.region_archive.specs.declared.record_fields.Section.{Section}

-- the older versions are read, and come before the latest
pub older_between : (rs : List ℕ) → (oldest ≤ older_version rs) × (older_version rs < latest)
unfolding older_version
older_between rs = go (exists (leb early_regions) rs)
  where
    go : (b : Bool) → (oldest ≤ pick b 2 1) × (pick b 2 1 < latest)
    go true = (omega arith, omega arith)
    go false = (omega arith, omega arith)

-- version 1 has no more regions than numbers for them
pub early_few : (rs : List ℕ) → ascends ltb rs ≡ true → older_version rs ≡ 1 → length rs ≤ early_regions
unfolding older_version
early_few rs a e = go (exists (leb early_regions) rs) refl e
  where
    go : (b : Bool) → exists (leb early_regions) rs ≡ b → ◌≡◌ {A = ℕ} (pick b 2 1) 1 → length rs ≤ early_regions
    go true f e = absurd (omega arith)
    go false f e =
        let small = all_map (λ n. leb early_regions n ≡ false) (λ n. n < early_regions) (λ n. leb-false early_regions n) rs
        (exists_none (leb early_regions) rs f) in
        omega (
          arith,
          ap length (members_back early_regions rs small a),
          keep_length (λ n. member n rs) (count_from 0 early_regions),
        )

-- a set below 2 ^ 16 has no region from 16 on
pub early : (x : ℕ) → x < 2 ^ early_regions → 1 ≡ older_version (members x)
unfolding older_version members
early x h =
    ap (λ b. pick b 2 1) (sym (none_any (leb early_regions) (members x)
    (all_kept (has x) (λ n. n < regions) (λ n. leb early_regions n ≡ false)
    (λ n e _. lt-leb early_regions n (in_lt early_regions x n h (has_in x n e))) (count_from 0 regions)
    (all_counted (λ n. n < regions) 0 regions (λ n l. omega arith)))))

-- and another has one
pub late : (x : ℕ) → 2 ^ early_regions ≤ x → x < 2 ^ regions → 2 ≡ older_version (members x)
unfolding older_version
late x h w = go (exists (leb early_regions) (members x)) refl
  where
    go : (b : Bool) → exists (leb early_regions) (members x) ≡ b → ◌≡◌ {A = ℕ} 2 (pick b 2 1)
    go true e = refl
    go false e =
        let i = high_in early_regions regions x h w in
        let n = i.0 in
        let u =
        member_all (λ m. leb early_regions m ≡ false) n (members x) (exists_none (leb early_regions) (members x) e)
        (sym (has_member x n) ∙ in_has x n (in_lt regions x n w i.2) i.2) in
        absurd (omega (arith, i.1, leb-false early_regions n u))

-- a file of version v may have the regions rs
abbrev pub may_have : ℕ → List ℕ → Bool
may_have v rs = eqb v latest || eqb v (older_version rs)

pub has_latest : {v : ℕ} (rs : List ℕ) → v ≡ latest → true ≡ may_have v rs
has_latest {v} rs e = rw (eq-eqb v latest e)

pub has_older : {v r : ℕ} (rs : List ℕ) → (v ≡ latest → ⊥) → r ≡ older_version rs → eqb v r ≡ may_have v rs
has_older {v} rs u e = rw (ne_eqb v latest u, e)

may_cases : (v : ℕ) (rs : List ℕ) → may_have v rs ≡ true → (v ≡ latest) ⊎ (v ≡ older_version rs)
may_cases v rs h = go (eqb v latest) refl h
  where
    go : (b : Bool) → eqb v latest ≡ b → (b || eqb v (older_version rs)) ≡ true → (v ≡ latest) ⊎ (v ≡ older_version rs)
    go true e k = inl (eqb-true v latest e)
    go false e k = inr (eqb-true v (older_version rs) k)

-- a model with an image of version v: the latest version, or an older one and a model that has no versions
pub in_cases : (v : ℕ) (m : Model) → in_version v m ≡ true → (v ≡ latest) ⊎ ((unversioned m ≡ true) × (v ≡ older_version m.regions))
in_cases v m h = go (eqb v latest) refl h
  where
    o : Bool
    o = eqb v (older_version m.regions)

    go : (b : Bool) → eqb v latest ≡ b → (b || (unversioned m && o)) ≡ true → (v ≡ latest) ⊎ ((unversioned m ≡ true) × (v ≡ older_version m.regions))
    go true e k = inl (eqb-true v latest e)
    go false e k = inr (and_fst (unversioned m) o k, eqb-true v (older_version m.regions) (and_snd (unversioned m) o k))

pub latest_in : {v : ℕ} (m : Model) → v ≡ latest → in_version v m ≡ true
latest_in {v} m e = rw (eq-eqb v latest e)

pub older_in : {v : ℕ} (m : Model) → unversioned m ≡ true → v ≡ older_version m.regions → in_version v m ≡ true
older_in {v} m u e = or_right (eqb v latest) (and_yes u (eq-eqb v (older_version m.regions) e))

-- two tests that need not be passed where a is true
or_both : (a b c : Bool) → (a || b) ≡ true → (a || c) ≡ true → (a || (b && c)) ≡ true
or_both true b c h k = refl
or_both false b c h k = and_yes h k

both_or : (a b c : Bool) → (a || (b && c)) ≡ true → ((a || b) ≡ true) × ((a || c) ≡ true)
both_or true b c h = (refl, refl)
both_or false b c h = (and_fst b c h, and_snd b c h)

module _ (v : ℕ) (m : Model) (h : in_version v m ≡ true) where
  pub version_read : (oldest ≤ v) × (v ≤ latest)
  version_read =
      ⊎_elim (λ e. (omega arith, omega arith)) (λ e. (omega (arith, e.1, (older_between m.regions).0), omega (arith, e.1, (older_between m.regions).1)))
      (in_cases v m h)

  -- its regions are those of a file of that version, and before the latest its sections have no versions
  pub may_have_it : may_have v m.regions ≡ true
  may_have_it =
      ⊎_elim (λ e. rw (eq-eqb v latest e)) (λ e. or_right (eqb v latest) (eq-eqb v (older_version m.regions) e.1)) (in_cases v m h)

  plain_sections : ((leb latest v || every plain_bundle m.bundles) ≡ true) × ((leb latest v || every plain_connection m.connections) ≡ true)
  plain_sections =
      both_or (leb latest v) (every plain_bundle m.bundles) (every plain_connection m.connections)
      (⊎_elim (λ e. rw (le-leb latest v (omega arith))) (λ e. or_right (leb latest v) e.0) (in_cases v m h))

-- and back
pub in_again : (v : ℕ) (m : Model) → may_have v m.regions ≡ true → (leb latest v || unversioned m) ≡ true → in_version v m ≡ true
in_again v m h p = ⊎_elim (latest_in m) older (may_cases v m.regions h)
  where
    older : v ≡ older_version m.regions → in_version v m ≡ true
    older e =
        let before : leb latest v ≡ false = lt-leb latest v (omega (arith, e, (older_between m.regions).1)) in
        older_in m (sym (ap (λ (b : Bool). b || unversioned m) before) ∙ p) e

-- a test that need not be passed where b is true, of all elements and of each
module _ {A : Type 0} (p : A → Bool) where
  pub each_or : (b : Bool) (xs : List A) → (b || every p xs) ≡ true → All (λ x. (b || p x) ≡ true) xs
  each_or true [] h = tt
  each_or true (x ∷ xs) h = (refl, each_or true xs refl)
  each_or false xs h = every_all (λ x. p x ≡ true) p (λ x e. e) xs h

  or_each : (b : Bool) (xs : List A) → All (λ x. (b || p x) ≡ true) xs → (b || every p xs) ≡ true
  or_each true xs h = refl
  or_each false xs h = all_every (λ x. p x ≡ true) p (λ x e. e) xs h

-- what is known of each element of a set, and more
module _ {A : Type 0} {before : A → A → Bool} {most : ℕ} (P Q : A → Type 0) (xs : List A) where
  sorted_both : Sorted before P most xs → All Q xs → Sorted before (λ x. P x × Q x) most xs
  sorted_both h q = record { few = h.few; each = all_both P Q xs h.each q; ascend = h.ascend }

  sorted_first : Sorted before (λ x. P x × Q x) most xs → Sorted before P most xs
  sorted_first h = record { few = h.few; each = all_map (λ x. P x × Q x) P (λ x k. k.0) xs h.each; ascend = h.ascend }

  sorted_second : Sorted before (λ x. P x × Q x) most xs → All Q xs
  sorted_second h = all_map (λ x. P x × Q x) Q (λ x k. k.1) xs h.each

-- the version of the file that a section stands in
abbrev pub version_of : Section → ℕ
version_of (Section.Bundles v) = v
version_of (Section.Connections v) = v

-- the elements of a model with an image of a version are legal in its sections
pub legal_elements : (s : Section) (m : Model) → LegalIn (version_of s) m → LegalElems s m.regions (elements s m)
legal_elements (Section.Bundles v) m (l, h) =
    sorted_both (LegalBundle m.regions) (λ b. (leb latest v || plain_bundle b) ≡ true) m.bundles l.bundles_legal
    (each_or plain_bundle (leb latest v) m.bundles (plain_sections v m h).0)
legal_elements (Section.Connections v) m (l, h) =
    sorted_both (LegalConnection m.regions) (λ c. (leb latest v || plain_connection c) ≡ true) m.connections l.connections_legal
    (each_or plain_connection (leb latest v) m.connections (plain_sections v m h).1)

-- and a model of such elements has an image of that version, where its regions may be in it
pub elements_legal : (v : ℕ) (m : Model) → GoodRegions m.regions → may_have v m.regions ≡ true
    → LegalElems (Section.Bundles v) m.regions m.bundles → LegalElems (Section.Connections v) m.regions m.connections → LegalIn v m
elements_legal v m r h bs cs =
    let PlainBundle : Elem (Section.Bundles v) → Type 0 = λ b. (leb latest v || plain_bundle b) ≡ true in
    let PlainConnection : Elem (Section.Connections v) → Type 0 = λ c. (leb latest v || plain_connection c) ≡ true in
    let plain =
    or_both (leb latest v) (every plain_bundle m.bundles) (every plain_connection m.connections)
    (or_each plain_bundle (leb latest v) m.bundles (sorted_second (LegalBundle m.regions) PlainBundle m.bundles bs))
    (or_each plain_connection (leb latest v) m.connections (sorted_second (LegalConnection m.regions) PlainConnection m.connections cs)) in (
      record {
        regions_legal = r;
        bundles_legal = sorted_first (LegalBundle m.regions) PlainBundle m.bundles bs;
        connections_legal = sorted_first (LegalConnection m.regions) PlainConnection m.connections cs;
      },
      in_again v m h plain,
    )
