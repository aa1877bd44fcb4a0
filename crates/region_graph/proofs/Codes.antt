-- Elements that are one number each, their code: number, package and entry by their codes.
use mathlib.Core.Path.{◌≡◌, refl, sym, ap, ap₂, ◌∙◌, subst}
use mathlib.Core.Bool.{Bool, true}
use mathlib.Core.List.{List, [], ◌∷◌, ◌++◌, map}
use Prim.Native.Nat.{ℕ, ◌+◌, ◌*◌, ◌/◌, ◌%◌, ◌^◌, ◌≤◌, ◌<◌}
use native.Mathlib.Nat.{div-one, div-add-mod', div-div-eq-div-mul, mod-lt}
use native.Mathlib.Omega.{arith}
use lib.Arith.{digits_div, digits_mod}
use lib.Dec.{ltb}
use lib.ListN.{length, take, replicate, length-map}
use borrow.Author.Tests.{ltb-true, lt-ltb}
use Rattle.region_graph.specs.Size.{most_provided, most_listed}
use Rattle.region_graph.specs.Lists.{All, every}
use Rattle.region_graph.specs.Model.{Package, PackageEntry, packages, entries, package_before, entry_before, ordered, Word, PackageFits, LegalEntry}
use Rattle.region_graph.specs.Record.{places, store_packages, packages_of, store_entries, entries_of}
use Rattle.region_graph.specs.Places.{put_into}
use Rattle.region_graph.specs.Flat.{package_code, entry_code}
use Rattle.region_graph.specs.Decoded.{is_word, head_from, tail_from}
use Rattle.region_graph.specs.declared.packages.Packages.{Packages}
use Rattle.region_graph.specs.declared.packages.Entries.{Entries}
use Rattle.region_graph.proofs.Lists.{and_yes, and_fst, and_snd, all_map, all_every}
use Rattle.region_graph.proofs.Arrays.{drop_replicate}
use Rattle.region_graph.proofs.Storing.{map_back, packages_back, entries_back}

-- the elements of a list are good where the heads of their codes have 32 bits and the elements pass a test
pub record Coding (A : Type 0) : Type 1 where
  pub code : A → ℕ
  pub out : ℕ → A
  pub unit : ℕ
  pub before : A → A → Bool
  pub test : A → Bool
  pub Good : A → Type 0
  pub again : (c : ℕ) → code (out c) ≡ c
  pub back : (x : A) → Good x → out (code x) ≡ x
  pub good : (c : ℕ) → Word (head_from unit c) → test (out c) ≡ true → Good (out c)
  pub word : (x : A) → Good x → Word (head_from unit (code x))
  pub tested : (x : A) → Good x → test x ≡ true

module _ {A : Type 0} (k : Coding A) where
  abbrev pub words : List ℕ → Bool
  words cs = every (λ c. is_word (head_from k.unit c)) cs

  pub codes_again : (cs : List ℕ) → map k.code (map k.out cs) ≡ cs
  codes_again [] = refl
  codes_again (c ∷ cs) = ap₂ (λ (d : ℕ) (ds : List ℕ). d ∷ ds) (k.again c) (codes_again cs)

  pub codes_back : (xs : List A) → All k.Good xs → map k.out (map k.code xs) ≡ xs
  codes_back xs h = map_back k.code k.out xs (all_map k.Good (λ x. k.out (k.code x) ≡ x) k.back xs h)

  pub codes_good : (cs : List ℕ) → words cs ≡ true → every k.test (map k.out cs) ≡ true → All k.Good (map k.out cs)
  codes_good [] h t = tt
  codes_good (c ∷ cs) h t =
      let w = is_word (head_from k.unit c) in
      let u = k.test (k.out c) in
      let us = every k.test (map k.out cs) in (
        k.good c (ltb-true (head_from k.unit c) (2 ^ 32) (and_fst w (words cs) h)) (and_fst u us t),
        codes_good cs (and_snd w (words cs) h) (and_snd u us t),
      )

  pub codes_words : (xs : List A) → All k.Good xs → words (map k.code xs) ≡ true
  codes_words [] h = refl
  codes_words (x ∷ xs) h = and_yes (lt-ltb (head_from k.unit (k.code x)) (2 ^ 32) (k.word x h.0)) (codes_words xs h.1)

  pub codes_tested : (xs : List A) → All k.Good xs → every k.test xs ≡ true
  codes_tested xs h = all_every k.Good k.test k.tested xs h

-- a number is its own code

abbrev pub number_coded : Coding ℕ
number_coded = record {
  code = λ n. n;
  out = head_from 1;
  unit = 1;
  before = ltb;
  test = λ n. true;
  Good = Word;
  again = div-one;
  back = λ n h. div-one n;
  good = λ c h t. h;
  word = λ n h. rw div-one h;
  tested = λ n h. refl;
}

-- digits to any base: the last one, and what stands above it

module _ (base : ℕ) where
  pub digit_again : (n : ℕ) → n / base * base + n / 1 % base ≡ n
  digit_again n = rw div-one (div-add-mod' n base)

  pub digits_again : (n : ℕ) → (n / (base * base) * base + n / base % base) * base + n / 1 % base ≡ n
  digits_again n =
      rw (← div-div-eq-div-mul n base base, div-add-mod' (n / base) base) (digit_again n)

  module _ (q : ℕ) {r : ℕ} (h : r < base) where
    pub last_digit : (q * base + r) / 1 % base ≡ r
    last_digit = rw div-one (digits_mod q h)

    module _ {s : ℕ} (l : s < base) where
      pub above_both : ((q * base + r) * base + s) / (base * base) ≡ q
      above_both = rw (← div-div-eq-div-mul ((q * base + r) * base + s) base base, digits_div (q * base + r) l) (digits_div q h)

      pub middle_digit : ((q * base + r) * base + s) / base % base ≡ r
      middle_digit = rw (digits_div (q * base + r) l) (digits_mod q h)

-- packages and entries

abbrev pub package_out : ℕ → Package
package_out c = record { number = head_from (2 ^ 16) c; version = tail_from 1 c }

abbrev pub package_coded : Coding Package
package_coded = record {
  code = package_code;
  out = package_out;
  unit = 2 ^ 16;
  before = package_before;
  test = λ p. true;
  Good = PackageFits;
  again = digit_again (2 ^ 16);
  back = λ p h i. record { number = digits_div p.number h.version i; version = last_digit (2 ^ 16) p.number h.version i };
  good = λ c h t. record { number = h; version = mod-lt (c / 1) (omega arith) };
  word = λ p h. rw (digits_div p.number h.version) h.number;
  tested = λ p h. refl;
}

abbrev pub entry_out : ℕ → PackageEntry
entry_out c = record { number = head_from (2 ^ 32) c; lowest = tail_from (2 ^ 16) c; highest = tail_from 1 c }

abbrev pub entry_coded : Coding PackageEntry
entry_coded = record {
  code = entry_code;
  out = entry_out;
  unit = 2 ^ 32;
  before = entry_before;
  test = ordered;
  Good = LegalEntry;
  again = digits_again (2 ^ 16);
  back = λ e h i. record {
    number = above_both (2 ^ 16) e.number h.fits.lowest h.fits.highest i;
    lowest = middle_digit (2 ^ 16) e.number h.fits.lowest h.fits.highest i;
    highest = last_digit (2 ^ 16) (e.number * 2 ^ 16 + e.lowest) h.fits.highest i;
  };
  good = λ c h t. record {
    fits = record { number = h; lowest = mod-lt (c / 2 ^ 16) (omega arith); highest = mod-lt (c / 1) (omega arith) };
    order = t;
  };
  word = λ e h. subst Word (sym (above_both (2 ^ 16) e.number h.fits.lowest h.fits.highest)) h.fits.number;
  tested = λ e h. h.order;
}

-- columns

-- a column of the elements that codes give, put into cleared places
column_out : {A : Type 0} (out : ℕ → A) (part : A → ℕ) (size : ℕ) (cs : List ℕ) {items : List ℕ} → length cs ≤ size
    → items ≡ put_into (replicate size 0) (map (λ c. part (out c)) cs) → items ≡ places part 0 size (map out cs)
column_out out part size cs h p =
    rw (p, twice cs, length-map (map out cs) part)
    (ap (λ (l : List ℕ). map part (map out cs) ++ l) (drop_replicate 0 size (length (map out cs)) (rw length-map h)))
  where
    twice : (ds : List ℕ) → map (λ c. part (out c)) ds ≡ map part (map out ds)
    twice [] = refl
    twice (d ∷ ds) = ap (λ (l : List ℕ). part (out d) ∷ l) (twice ds)

-- those of packages, and of entries, are what stores them
module _ (cs : List ℕ) {count : ℕ} (e : length cs ≡ count) where
  module _ {numbers versions : List ℕ} (l : count ≤ most_provided) (n : numbers ≡ put_into (replicate most_provided 0) (map (head_from (2 ^ 16)) cs))
      (v : versions ≡ put_into (replicate most_provided 0) (map (tail_from 1) cs)) where
    pub packages_columns : ◌≡◌ {A = Packages} (record { count = count; numbers = numbers; versions = versions }) (store_packages (map package_out cs))
    unfolding store_packages
    packages_columns = λ i. record {
      count = (sym e ∙ sym (length-map cs package_out)) i;
      numbers = column_out package_out (λ p. p.number) most_provided cs (omega (arith, e)) n i;
      versions = column_out package_out (λ p. p.version) most_provided cs (omega (arith, e)) v i;
    }

    pub packages_there : packages (take count numbers) (take count versions) ≡ map package_out cs
    unfolding packages_of
    packages_there = ap packages_of packages_columns ∙ packages_back (map package_out cs)

  module _ {numbers lowest highest : List ℕ} (l : count ≤ most_listed) (n : numbers ≡ put_into (replicate most_listed 0) (map (head_from (2 ^ 32)) cs))
      (v : lowest ≡ put_into (replicate most_listed 0) (map (tail_from (2 ^ 16)) cs))
      (w : highest ≡ put_into (replicate most_listed 0) (map (tail_from 1) cs)) where
    pub entries_columns : ◌≡◌ {A = Entries} (record { count = count; numbers = numbers; lowest = lowest; highest = highest })
        (store_entries (map entry_out cs))
    unfolding store_entries
    entries_columns = λ i. record {
      count = (sym e ∙ sym (length-map cs entry_out)) i;
      numbers = column_out entry_out (λ x. x.number) most_listed cs (omega (arith, e)) n i;
      lowest = column_out entry_out (λ x. x.lowest) most_listed cs (omega (arith, e)) v i;
      highest = column_out entry_out (λ x. x.highest) most_listed cs (omega (arith, e)) w i;
    }

    pub entries_there : entries (take count numbers) (take count lowest) (take count highest) ≡ map entry_out cs
    unfolding entries_of
    entries_there = ap entries_of entries_columns ∙ entries_back (map entry_out cs)
