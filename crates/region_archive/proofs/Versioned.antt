-- Numbers, packages and entries as codes in the form of their list: what is good, its order and its bytes.
use mathlib.Core.Path.{◌≡◌, refl, sym, ap, ap₂, ◌∙◌, subst}
use mathlib.Core.Bool.{Bool, true, false, ◌&&◌, ◌||◌}
use mathlib.Core.List.{List, [], ◌∷◌, ◌++◌, map, append_assoc}
use Prim.Native.Nat.{ℕ, ◌+◌, ◌*◌, ◌/◌, ◌%◌, ◌^◌, ◌<◌}
use native.Mathlib.Nat.{div-one, mod-one, mod-lt, div-lt_iff_lt-mul}
use native.Mathlib.Omega.{arith}
use borrow.Author.Tests.{eqb-true, eq-eqb}
use lib.Arith.{digits_lt, digits_div, digits_mod, mod-mul}
use lib.Dec.{eqb, leb, ltb}
use lib.ListN.{length-map}
use Rattle.region_graph.specs.Lists.{pick, All, every, ascends, concat_map}
use Rattle.region_graph.specs.Size.{most_listed}
use Rattle.region_graph.specs.Calls.{of_listed}
use Rattle.region_graph.specs.Model.{Part, SortedPart}
use Rattle.region_graph.specs.Model.{Package, PackageEntry, package_before, entry_before, ordered, Word, PackageFits, LegalEntry, Sorted, Numbered}
use Rattle.region_graph.specs.Flat.{package_code, entry_code, map_part}
use Rattle.region_graph.proofs.Lists.{and_yes, and_fst, and_snd, false_true}
use Rattle.region_graph.proofs.Ascending.{pair_order}
use Rattle.region_graph.proofs.Storing.{map_id}
use Rattle.region_graph.proofs.Codes.{Coding, number_coded, package_coded, entry_coded, entry_out, above_both, middle_digit, codes_again}
use Rattle.big_endian.specs.Bytes.{big, counted}
use Rattle.big_endian.proofs.Digits.{big_join}
use Rattle.region_archive.specs.Image.{part_bytes, export_in, entry_in, plain_package, full_range}
use Rattle.region_archive.specs.Forms.{element_bytes, code_before, CodeGood, Coded}
use Rattle.region_archive.specs.Forms.{numbers_form, packages_form, bare_packages_form, entries_form, bare_entries_form}
use Rattle.region_archive.specs.RecordFields.{PartGood}
use Rattle.region_archive.specs.declared.forms.Form.{Form}
use Rattle.region_archive.proofs.FormLaws.{packages_in, entries_in}

-- elements that stand in a form, where they are plain
pub record Formed {A : Type 0} (k : Coding A) (f : Form) (plain : A → Bool) (bytes : A → List ℕ) : Type 0 where
  pub into : (x : A) → k.Good x → plain x ≡ true → CodeGood f (k.code x)
  pub back : (c : ℕ) → CodeGood f c → k.Good (k.out c) × (plain (k.out c) ≡ true)
  pub order : (x y : A) → k.Good x → k.Good y → code_before f (k.code x) (k.code y) ≡ k.before x y
  pub shown : (x : A) → k.Good x → element_bytes f (k.code x) ≡ bytes x

module _ {A : Type 0} {k : Coding A} {f : Form} {plain : A → Bool} {bytes : A → List ℕ} (h : Formed k f plain bytes) where
  codes_ascend : (xs : List A) → All k.Good xs → ascends (code_before f) (map k.code xs) ≡ ascends k.before xs
  codes_ascend [] g = refl
  codes_ascend (x ∷ []) g = refl
  codes_ascend (x ∷ y ∷ ys) g = ap₂ ◌&&◌ (h.order x y g.0 g.1.0) (codes_ascend (y ∷ ys) g.1)

  codes_into : (xs : List A) → All k.Good xs → every plain xs ≡ true → All (CodeGood f) (map k.code xs)
  codes_into [] g e = tt
  codes_into (x ∷ xs) g e =
      (h.into x g.0 (and_fst (plain x) (every plain xs) e), codes_into xs g.1 (and_snd (plain x) (every plain xs) e))

  codes_out : (cs : List ℕ) → All (CodeGood f) cs → All k.Good (map k.out cs) × (every plain (map k.out cs) ≡ true)
  codes_out [] g = (tt, refl)
  codes_out (c ∷ cs) g =
      let a = h.back c g.0 in
      let b = codes_out cs g.1 in
      ((a.0, b.0), and_yes a.1 b.1)

  -- a list of good elements, and the elements of a list of good codes
  pub formed_list : {most : ℕ} (xs : List A) → Sorted k.before k.Good most xs → every plain xs ≡ true → Coded f most (map k.code xs)
  formed_list xs s e = record {
    few = rw length-map s.few;
    each = codes_into xs s.each e;
    ascend = codes_ascend xs s.each ∙ s.ascend;
  }

  pub list_formed : {most : ℕ} (cs : List ℕ) → Coded f most cs
      → Sorted k.before k.Good most (map k.out cs) × (every plain (map k.out cs) ≡ true)
  list_formed cs s =
      let b = codes_out cs s.each in (
        record {
          few = rw length-map s.few;
          each = b.0;
          ascend = sym (codes_ascend (map k.out cs) b.0) ∙ ap (ascends (code_before f)) (codes_again k cs) ∙ s.ascend;
        },
        b.1,
      )

  -- and its bytes
  pub formed_bytes : (xs : List A) → All k.Good xs → concat_map (element_bytes f) (map k.code xs) ≡ concat_map bytes xs
  formed_bytes [] g = refl
  formed_bytes (x ∷ xs) g = ap₂ ◌++◌ (h.shown x g.0) (formed_bytes xs g.1)

  pub formed_counted : (xs : List A) → All k.Good xs → counted (element_bytes f) (map k.code xs) ≡ counted bytes xs
  formed_counted xs g = ap₂ (λ (n : ℕ) (l : List ℕ). n ∷ l) (length-map xs k.code) (formed_bytes xs g)

-- numbers
pub numbers_formed : Formed number_coded numbers_form (λ n. true) (big 4)
numbers_formed = record {
  into = λ n h e.
      record {
        small = subst (λ (m : ℕ). m < 256 ^ 4) (sym (div-one n)) h;
        unwritten = mod-one n;
        ordered = ap (λ (m : ℕ). leb (m / 65536) (m % 65536)) (mod-one n);
      };
  back = λ c h. (h.small, refl);
  order = λ x y g h i. ltb (div-one x i) (div-one y i);
  shown = λ x h. ap (big 4) (div-one x);
}

-- packages

package_order : (x y : Package) → PackageFits x → PackageFits y → ltb (package_code x / 1) (package_code y / 1) ≡ package_before x y
package_order x y g h =
    (λ i. ltb (div-one (package_code x) i) (div-one (package_code y) i))
    ∙ sym (pair_order (2 ^ 16) x.number x.version y.number y.version g.version h.version)

-- a code has nothing below the unit 1
nothing_lower : (c : ℕ) → leb (c % 1 / 65536) (c % 1 % 65536) ≡ true
nothing_lower c = ap (λ (m : ℕ). leb (m / 65536) (m % 65536)) (mod-one c)

whole_packages : Formed package_coded packages_form (λ p. true) (λ p. big 4 p.number ++ big 2 p.version)
whole_packages = record {
  into = λ p h e.
      record {
        small = subst (λ (m : ℕ). m < 256 ^ 6) (sym (div-one (package_code p))) (digits_lt h.number h.version);
        unwritten = mod-one (package_code p);
        ordered = nothing_lower (package_code p);
      };
  back = λ c h. (package_coded.good c ((div-lt_iff_lt-mul (omega arith)).1 (subst (λ (m : ℕ). m < 256 ^ 6) (div-one c) h.small)) refl, refl);
  order = package_order;
  shown = λ p h. ap (big 6) (div-one (package_code p)) ∙ big_join 4 2 p.number p.version h.version;
}

bare_packages : Formed package_coded bare_packages_form plain_package (λ p. big 4 p.number ++ [])
bare_packages = record {
  into = λ p h e.
      record {
        small = subst (λ (m : ℕ). m < 256 ^ 4) (sym (digits_div p.number h.version)) h.number;
        unwritten = digits_mod p.number h.version ∙ eqb-true p.version 0 e;
        ordered = nothing_lower (package_code p);
      };
  back = λ c h. (package_coded.good c h.small refl, eq-eqb (c / 1 % 2 ^ 16) 0 (ap (λ (m : ℕ). m % 2 ^ 16) (div-one c) ∙ h.unwritten));
  order = package_order;
  shown = λ p h. ap (big 4) (digits_div p.number h.version);
}

-- entries

-- the two versions of an entry are the lower bits of its code
lower_two : (c : ℕ) → c % 2 ^ 32 ≡ (c / 2 ^ 16 % 2 ^ 16) * 2 ^ 16 + c % 2 ^ 16
lower_two c = mod-mul c {m = 2 ^ 16} {c = 2 ^ 16} (omega arith) (omega arith)

lower_is : (c : ℕ) → leb (c % 2 ^ 32 / 65536) (c % 2 ^ 32 % 65536) ≡ ordered (entry_out c)
lower_is c =
    let last : c % 2 ^ 16 < 2 ^ 16 = mod-lt c (omega arith) in
    ap (λ (m : ℕ). leb (m / 65536) (m % 65536)) (lower_two c)
    ∙ (λ i. leb (digits_div (c / 2 ^ 16 % 2 ^ 16) last i) ((digits_mod (c / 2 ^ 16 % 2 ^ 16) last ∙ ap (λ (m : ℕ). m % 2 ^ 16) (sym (div-one c))) i))

entry_lower : (e : PackageEntry) → LegalEntry e → leb (entry_code e % 2 ^ 32 / 65536) (entry_code e % 2 ^ 32 % 65536) ≡ true
entry_lower e h = lower_is (entry_code e) ∙ ap ordered (entry_coded.back e h) ∙ h.order

entry_order : (x y : PackageEntry) → LegalEntry x → LegalEntry y → ltb (entry_code x / 2 ^ 32) (entry_code y / 2 ^ 32) ≡ entry_before x y
entry_order x y g h = λ i.
    ltb (above_both (2 ^ 16) x.number g.fits.lowest g.fits.highest i) (above_both (2 ^ 16) y.number h.fits.lowest h.fits.highest i)

whole_entries : Formed entry_coded entries_form (λ e. true) (λ e. big 4 e.number ++ (big 2 e.lowest ++ big 2 e.highest))
whole_entries = record {
  into = λ e h p.
      record {
        small =
            subst (λ (m : ℕ). m < 256 ^ 8) (sym (div-one (entry_code e)))
            (digits_lt (digits_lt h.fits.number h.fits.lowest) h.fits.highest);
        unwritten = mod-one (entry_code e);
        ordered = entry_lower e h;
      };
  back = λ c h.
      let small : c < 256 ^ 8 = subst (λ (m : ℕ). m < 256 ^ 8) (div-one c) h.small in
      let word : Word (c / 2 ^ 32) = (div-lt_iff_lt-mul {k = 2 ^ 32} {x = c} {y = 2 ^ 32} (omega arith)).1 small in
      (entry_coded.good c word (sym (lower_is c) ∙ h.ordered), refl);
  order = entry_order;
  shown = λ e h.
      ap (big 8) (div-one (entry_code e)) ∙ big_join 6 2 (e.number * 2 ^ 16 + e.lowest) e.highest h.fits.highest
      ∙ ap (λ (s : List ℕ). s ++ big 2 e.highest) (big_join 4 2 e.number e.lowest h.fits.lowest)
      ∙ append_assoc (big 4 e.number) (big 2 e.lowest) (big 2 e.highest);
}

bare_entries : Formed entry_coded bare_entries_form full_range (λ e. big 4 e.number ++ [])
bare_entries = record {
  into = λ e h p.
      let lowest = eqb-true e.lowest 0 (and_fst (eqb e.lowest 0) (eqb e.highest 65535) p) in
      let highest = eqb-true e.highest 65535 (and_snd (eqb e.lowest 0) (eqb e.highest 65535) p) in
      let middle = middle_digit (2 ^ 16) e.number h.fits.lowest h.fits.highest in
      record {
        small = subst Word (sym (above_both (2 ^ 16) e.number h.fits.lowest h.fits.highest)) h.fits.number;
        unwritten =
            lower_two (entry_code e)
            ∙ (λ i. (middle ∙ lowest) i * 2 ^ 16 + (digits_mod (e.number * 2 ^ 16 + e.lowest) h.fits.highest ∙ highest) i);
        ordered = entry_lower e h;
      };
  back = λ c h.
      let two : (c / 2 ^ 16 % 2 ^ 16) * 2 ^ 16 + c % 2 ^ 16 ≡ 65535 = sym (lower_two c) ∙ h.unwritten in
      let last : c % 2 ^ 16 < 2 ^ 16 = mod-lt c (omega arith) in
      let lowest : c / 2 ^ 16 % 2 ^ 16 ≡ 0 = omega arith in
      let highest : c % 2 ^ 16 ≡ 65535 = omega arith in (
        entry_coded.good c h.small (sym (lower_is c) ∙ h.ordered),
        and_yes (eq-eqb _ 0 lowest) (eq-eqb _ 65535 (ap (λ (m : ℕ). m % 2 ^ 16) (div-one c) ∙ highest)),
      );
  order = entry_order;
  shown = λ e h. ap (big 4) (above_both (2 ^ 16) e.number h.fits.lowest h.fits.highest);
}

-- in a version
pub packages_formed : (v : ℕ) → Formed package_coded (packages_in v) (λ p. leb 3 v || plain_package p) (export_in v)
packages_formed v = go (leb 3 v)
  where
    go : (b : Bool) → Formed package_coded (pick b packages_form bare_packages_form) (λ p. b || plain_package p)
        (λ p. big 4 p.number ++ pick b (big 2 p.version) [])
    go true = whole_packages
    go false = bare_packages

pub entries_formed : (v : ℕ) → Formed entry_coded (entries_in v) (λ e. leb 3 v || full_range e) (entry_in v)
entries_formed v = go (leb 3 v)
  where
    go : (b : Bool) → Formed entry_coded (pick b entries_form bare_entries_form) (λ e. b || full_range e)
        (λ e. big 4 e.number ++ pick b (big 2 e.lowest ++ big 2 e.highest) [])
    go true = whole_entries
    go false = bare_entries

-- each of a list is plain or the version tells, at once
pub every_or : {A : Type 0} (b : Bool) (p : A → Bool) (xs : List A) → every (λ x. b || p x) xs ≡ (b || every p xs)
every_or true p [] = refl
every_or true p (x ∷ xs) = every_or true p xs
every_or false p xs = refl

-- a list, and a part, whose elements stand in a form
module _ {A : Type 0} {k : Coding A} {f : Form} {plain : A → Bool} {bytes : A → List ℕ} (h : Formed k f plain bytes) where
  pub record IsList (most : ℕ) (p : Part ℕ) : Type 0 where
    pub items : List A
    pub is_list : p ≡ Part.listed (map k.code items)
    pub in_order : Sorted k.before k.Good most items
    pub all_plain : every plain items ≡ true

  pub closed_part : (most : ℕ) (p : Part ℕ) → PartGood f most false p → IsList most p
  closed_part most (Part.listed cs) g =
      let b = list_formed h cs g in
      record { items = map k.out cs; is_list = ap Part.listed (sym (codes_again k cs)); in_order = b.0; all_plain = b.1 }
  closed_part most Part.everything g = false_true g

  pub record IsPart (p : Part ℕ) : Type 0 where
    pub part : Part A
    pub is_part : p ≡ map_part k.code part
    pub in_order : SortedPart k.before k.Good part
    pub all_plain : of_listed (every plain) part ≡ true

  pub any_part : (p : Part ℕ) → PartGood f most_listed true p → IsPart p
  any_part (Part.listed cs) g =
      let b = list_formed h cs g in
      record { part = Part.listed (map k.out cs); is_part = ap Part.listed (sym (codes_again k cs)); in_order = b.0; all_plain = b.1 }
  any_part Part.everything g = record { part = Part.everything; is_part = refl; in_order = tt; all_plain = refl }

  pub open_part : (p : Part A) → SortedPart k.before k.Good p → of_listed (every plain) p ≡ true
      → PartGood f most_listed true (map_part k.code p)
  open_part (Part.listed xs) s e = formed_list h xs s e
  open_part Part.everything s e = refl

  pub formed_part : (p : Part A) → SortedPart k.before k.Good p → part_bytes (element_bytes f) (map_part k.code p) ≡ part_bytes bytes p
  formed_part (Part.listed xs) s = formed_counted h xs s.each
  formed_part Part.everything s = refl

-- a part of numbers has them for its codes
pub part_id : (p : Part ℕ) → map_part (λ n. n) p ≡ p
part_id (Part.listed xs) = ap Part.listed (map_id xs)
part_id Part.everything = refl

-- a set of numbers as codes, and a part
pub coded : {most : ℕ} (xs : List ℕ) → Numbered most xs → Coded numbers_form most xs
coded {most} xs s = subst (Coded numbers_form most) (map_id xs) (formed_list numbers_formed xs s (every_or true (λ n. true) xs))

pub part_coded : (p : Part ℕ) → SortedPart ltb Word p → PartGood numbers_form most_listed true p
part_coded (Part.listed xs) s = coded xs s
part_coded Part.everything s = refl

pub part_or : {A : Type 0} (b : Bool) (p : A → Bool) (q : Part A) → of_listed (every (λ x. b || p x)) q ≡ (b || of_listed (every p) q)
part_or b p (Part.listed xs) = every_or b p xs
part_or true p Part.everything = refl
part_or false p Part.everything = refl
