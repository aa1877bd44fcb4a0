-- Laws of forms: those that there are fit, and the bytes of a code tell it.
use mathlib.Core.Path.{◌≡◌, refl, sym, ap, ◌∙◌, subst}
use mathlib.Core.Bool.{Bool, true, false}
use mathlib.Core.List.{List, ◌++◌}
use Prim.Native.Nat.{ℕ, ◌+◌, ◌-◌, ◌*◌, ◌/◌, ◌%◌, ◌^◌, ◌≤◌, ◌<◌}
use native.Mathlib.Nat.{div-add-mod', div-lt_iff_lt-mul, lt_of_lt_of_le, lt_of_le_of_lt, mod-eq_of_lt, le-add_right}
use native.Mathlib.Numerals.{add-one}
use native.Mathlib.Omega.{arith}
use borrow.Author.Tests.{le-leb, leb-true, ltb-true, ne_eqb}
use lib.Arith.{digits_lt, digits_div, digits_mod}
use lib.Dec.{eqb, leb}
use lib.ListN.{length, drop}
use Rattle.region_graph.specs.Lists.{pick}
use Rattle.region_graph.proofs.Lists.{and_yes, and_fst, and_snd, false_true}
use Rattle.big_endian.specs.Bytes.{big}
use Rattle.big_endian.specs.Numbers.{longest}
use Rattle.big_endian.specs.Parsing.{Parsed, Unparsed}
use Rattle.big_endian.proofs.Delimits.{Delimits, big_same}
use Rattle.big_endian.proofs.Rows.{Elements, NoNext}
use Rattle.big_endian.proofs.Tested.{Tested, tested_le, tested_lt, tested_both, tested_as}
use Rattle.region_archive.specs.Forms.{element_bytes, code_key, code_before, lower_ordered, CodeGood, code_next, NextCode, FormFits}
use Rattle.region_archive.specs.Forms.{scale, unit}
use Rattle.region_archive.specs.Forms.{numbers_form, packages_form, bare_packages_form, entries_form, bare_entries_form, form_of}
use Rattle.region_archive.specs.declared.forms.Form.{Form}
use Rattle.region_archive.specs.declared.record_fields.Section.{Section}

-- whether a form fits
unfoldable tested_form : (f : Form) → Tested (FormFits f)
tested_form f =
    tested_as
    (λ t. record {
      wide = t.0;
      skips = t.1.0;
      lowers = t.1.1.0;
      scaled = t.1.1.1.0;
      rested = t.1.1.1.1.0;
      units = t.1.1.1.1.1.0;
      codes = t.1.1.1.1.1.1.0;
      keys = t.1.1.1.1.1.1.1;
    })
    (λ h. (h.wide, (h.skips, (h.lowers, (h.scaled, (h.rested, (h.units, (h.codes, h.keys))))))))
    (tested_both (tested_le f.width longest)
    (tested_both (tested_lt f.skipped 64)
    (tested_both (tested_lt f.lower 64)
    (tested_both (tested_le 1 (scale f))
    (tested_both (tested_lt f.rest (scale f))
    (tested_both (tested_le 1 (unit f))
    (tested_both (tested_le (256 ^ f.width * scale f) (2 ^ 64)) (tested_le (256 ^ f.width * scale f) (2 ^ 63 * unit f)))))))))

pub numbers_form_fits : FormFits numbers_form
unfolding tested_form tested_le tested_lt tested_both tested_as
numbers_form_fits = (tested_form numbers_form).holds refl

pub packages_form_fits : FormFits packages_form
unfolding tested_form tested_le tested_lt tested_both tested_as
packages_form_fits = (tested_form packages_form).holds refl

pub bare_packages_form_fits : FormFits bare_packages_form
unfolding tested_form tested_le tested_lt tested_both tested_as
bare_packages_form_fits = (tested_form bare_packages_form).holds refl

pub entries_form_fits : FormFits entries_form
unfolding tested_form tested_le tested_lt tested_both tested_as
entries_form_fits = (tested_form entries_form).holds refl

pub bare_entries_form_fits : FormFits bare_entries_form
unfolding tested_form tested_le tested_lt tested_both tested_as
bare_entries_form_fits = (tested_form bare_entries_form).holds refl

-- those of packages and entries in a version
abbrev pub packages_in : ℕ → Form
packages_in v = pick (leb 3 v) packages_form bare_packages_form

abbrev pub entries_in : ℕ → Form
entries_in v = pick (leb 3 v) entries_form bare_entries_form

fits_either : (b : Bool) {f g : Form} → FormFits f → FormFits g → FormFits (pick b f g)
fits_either true h k = h
fits_either false h k = k

pub form_fits : (s : Section) (field : ℕ) → FormFits (form_of s field)
unfolding form_of
form_fits (Section.Bundles v) field = fits_either (eqb field 2) (fits_either (leb 3 v) packages_form_fits bare_packages_form_fits) numbers_form_fits
form_fits (Section.Connections v) field = fits_either (eqb field 3) (fits_either (leb 3 v) entries_form_fits bare_entries_form_fits) numbers_form_fits

-- by the section and the field
module _ {s : Section} {v field : ℕ} where
  pub packages_here : s ≡ Section.Bundles v → field ≡ 2 → packages_in v ≡ form_of s field
  unfolding form_of
  packages_here e f = rw (e, f)

  pub no_packages_here : s ≡ Section.Bundles v → (field ≡ 2 → ⊥) → numbers_form ≡ form_of s field
  unfolding form_of
  no_packages_here e f = rw (e, ne_eqb field 2 f)

  pub entries_here : s ≡ Section.Connections v → field ≡ 3 → entries_in v ≡ form_of s field
  unfolding form_of
  entries_here e f = rw (e, f)

  pub no_entries_here : s ≡ Section.Connections v → (field ≡ 3 → ⊥) → numbers_form ≡ form_of s field
  unfolding form_of
  no_entries_here e f = rw (e, ne_eqb field 3 f)

-- a shift to the left that loses no bit of a number below w
module _ (w : ℕ) where
  shift_whole : {n : ℕ} → n < w → n % w ≡ n
  shift_whole h = mod-eq_of_lt h

  module _ (c u : ℕ) {k : ℕ} (e : k ≡ c / u) (small : c < w) where
    kept : k * u + c % u ≡ c
    kept = ap (λ (q : ℕ). q * u + c % u) e ∙ div-add-mod' c u

    below : k * u ≤ c
    below = omega (arith, kept)

    -- what a code has below a unit
    pub shift_below : (k * u) % w ≤ c
    shift_below = subst (λ (n : ℕ). n ≤ c) (sym (shift_whole (lt_of_le_of_lt below small))) below

    pub lower_left : c - (k * u) % w ≡ c % u
    lower_left =
        ap (λ (n : ℕ). c - n) (shift_whole (lt_of_le_of_lt below small))
        ∙ omega (arith, kept)

  -- what is written of a code, and the rest
  pub shift_written : (n u r : ℕ) → n * u + r < w → (n * u) % w + r ≡ n * u + r
  shift_written n u r h = ap (λ (m : ℕ). m + r) (shift_whole (lt_of_le_of_lt (le-add_right (n * u) r) h))

-- a code is what is written of it and the rest
code_is : (f : Form) {c n : ℕ} → c / scale f ≡ n → c % scale f ≡ f.rest → c ≡ n * scale f + f.rest
code_is f {c} e g = sym (div-add-mod' c (scale f)) ∙ (λ i. e i * scale f + g i)

pub code_same : (f : Form) → Delimits (CodeGood f) (element_bytes f) ◌≡◌
code_same f x y r t h g e =
    let d = big_same f.width (x / scale f) (y / scale f) r t h.small g.small e in
    (code_is f d.0 h.unwritten ∙ sym (code_is f refl g.unwritten), d.1)

-- the elements of a list
abbrev pub codes : Form → Elements ℕ
codes f = record {
  good = CodeGood f;
  bytes = element_bytes f;
  before = code_before f;
  key = code_key f;
  same = code_same f;
  keyed = λ x y g h. refl;
}

module _ {f : Form} (h : FormFits f) where
  -- a number of the form's width makes a code of 64 bits
  pub code_small : {n : ℕ} → n < 256 ^ f.width → n * scale f + f.rest < 2 ^ 64
  code_small l = lt_of_lt_of_le (digits_lt l h.rested) h.codes

  -- the key after a good code's
  pub next_key_small : {c : ℕ} → CodeGood f c → code_key f c + 1 < 2 ^ 64
  next_key_small {c} g =
      let small : c < 2 ^ 63 * unit f = lt_of_lt_of_le ((div-lt_iff_lt-mul h.scaled).0 g.small) h.keys in
      rw add-one (lt_of_le_of_lt ((div-lt_iff_lt-mul h.units).1 small) (ltb-true (2 ^ 63) (2 ^ 64) refl))

-- the bytes of the next code are not there
pub code_missing : (f : Form) (s : List ℕ) (at least : ℕ) → Unparsed (λ n. n < 256 ^ f.width) (big f.width) s at
    → Unparsed (NextCode f least) (element_bytes f) s at
code_missing f s at least u z r k i = u (z / scale f) r k.good.small i

code_written : {f : Form} → FormFits f → {n code : ℕ} → code ≡ n * scale f + f.rest → code / scale f ≡ n
code_written {f} h {n} c = ap (λ (m : ℕ). m / scale f) c ∙ digits_div n h.rested

-- or they are
module _ {f : Form} (s : List ℕ) (at least : ℕ) (h : FormFits f) {n next : ℕ} (p : Parsed (λ n. n < 256 ^ f.width) (big f.width) s at n next)
    {code : ℕ} (c : code ≡ n * scale f + f.rest) where
  pub code_stands : code_next f least code ≡ true → Parsed (NextCode f least) (element_bytes f) s at code next
  code_stands y = record {
    is_good = record {
      good = record {
        small = subst (λ (m : ℕ). m < 256 ^ f.width) (sym (code_written h c)) p.is_good;
        unwritten = ap (λ (m : ℕ). m % scale f) c ∙ digits_mod n h.rested;
        ordered = and_snd (leb least (code_key f code)) (lower_ordered f code) y;
      };
      high = leb-true least (code_key f code) (and_fst _ (lower_ordered f code) y);
    };
    shape = p.shape ∙ ap (λ (m : ℕ). big f.width m ++ drop next s) (sym (code_written h c));
    ends = p.ends ∙ ap (λ (m : ℕ). at + length (big f.width m)) (sym (code_written h c));
    room = p.room;
  }

  pub code_refused : code_next f least code ≡ false → Unparsed (NextCode f least) (element_bytes f) s at
  code_refused y z r k i =
      let d = big_same f.width n (z / scale f) (drop next s) r p.is_good k.good.small (sym p.shape ∙ i) in
      let same : z ≡ code = code_is f (sym d.0) k.good.unwritten ∙ sym c in
      false_true (sym y ∙ ap (code_next f least) (sym same) ∙ and_yes (le-leb least (code_key f z) k.high) k.good.ordered)

pub no_next_code : (f : Form) (s : List ℕ) (at least : ℕ) → Unparsed (NextCode f least) (element_bytes f) s at → NoNext (codes f) s at least
no_next_code f s at least u z r h l e = u z r (record { good = h; high = l }) e
