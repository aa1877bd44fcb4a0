-- A list and a part of a record, read into the first places of a row.
use mathlib.Core.Path.{◌≡◌, refl, sym, ap, ◌∙◌, subst}
use mathlib.Core.Bool.{Bool, true}
use mathlib.Core.List.{List, ◌∷◌, ◌++◌}
use Prim.Native.Nat.{ℕ, ◌+◌, ◌≤◌, ◌<◌}
use native.Mathlib.Omega.{arith}
use lib.ListN.{length, take, drop, get_or, set, length-set, length-drop}
use lib.Seq.{length-take-le, drop-set-add, get_or-set_same, get_or-set_other}
use Rattle.std.specs.Prelude.{Option, Some, None}
use Rattle.region_graph.specs.Size.{most_listed, everything_sign}
use Rattle.region_graph.specs.Model.{Part}
use Rattle.region_graph.specs.Flat.{FlatPart}
use Rattle.big_endian.specs.Bytes.{big, counted}
use Rattle.region_archive.specs.Image.{part_bytes}
use Rattle.region_archive.specs.Forms.{element_bytes, code_key, CodeGood, Coded}
use Rattle.big_endian.specs.Parsing.{Parsed, Unparsed, ParsedInto, AnswerInto}
use Rattle.big_endian.proofs.Digits.{drop_byte}
use Rattle.big_endian.proofs.Delimits.{head_same}
use Rattle.big_endian.proofs.Rows.{Going, NoNext, going_none, going_more}
use Rattle.region_archive.specs.RecordFields.{PartGood}
use Rattle.region_archive.proofs.CountedReads.{take_set}
use Rattle.region_archive.specs.declared.forms.Form.{Form}
use Rattle.region_archive.proofs.FormLaws.{codes}
use Rattle.region_archive.proofs.CountedLists.{counted_found, counted_stuck}

drop_set : {A : Type 0} (l : List A) (n : ℕ) (x : A) → drop 1 (set l (n + 1) x) ≡ set (drop 1 l) n x
drop_set l n x =
    let e : n + 1 ≡ 1 + n = omega arith in
    rw e (drop-set-add 1 l n x)

-- n elements of a list of `total` were read from `mid` to `to`; their codes stand in a row behind the count
pub record ListGoing (f : Form) (s : List ℕ) (mid total size n : ℕ) (row : List ℕ) (to least : ℕ) : Type 0 where
  pub size_is : length row ≡ size
  pub first : get_or row 0 0 ≡ total
  pub going : Going (codes f) s mid (take n (drop 1 row)) to least

pub list_start : {f : Form} {s : List ℕ} {mid : ℕ} → mid ≤ length s → (total : ℕ) (row : List ℕ) → 1 ≤ length row
    → ListGoing f s mid total (length (set row 0 total)) 0 (set row 0 total) mid 0
list_start {f} h total row k =
    record { size_is = refl; first = get_or-set_same row 0 total 0 (omega arith); going = going_none (codes f) h }

module _ {f : Form} {s : List ℕ} {mid total size n : ℕ} {row : List ℕ} {to least : ℕ} (g : ListGoing f s mid total size n row to least) where
  pub list_more : n + 1 < size → {x next : ℕ} → Parsed (CodeGood f) (element_bytes f) s to x next → least ≤ code_key f x
      → ListGoing f s mid total size (n + 1) (set row (n + 1) x) next (code_key f x + 1)
  list_more h {x} {next} p l = record {
    size_is = length-set row (n + 1) x ∙ g.size_is;
    first = get_or-set_other row (n + 1) 0 x 0 (λ e. omega arith) ∙ g.first;
    going =
        subst (λ (xs : List ℕ). Going (codes f) s mid xs next (code_key f x + 1))
        (sym (ap (take (n + 1)) (drop_set row n x) ∙ take_set (drop 1 row) n x (omega (arith, length-drop 1 row, g.size_is))))
        (going_more (codes f) g.going p l);
  }

  module _ {most : ℕ} (small : most < 256) {at : ℕ} (p : Parsed (λ m. m ≤ most) (big 1) s at total mid) (room : n < size) where
    long : length (take n (drop 1 row)) ≡ n
    long = length-take-le n (drop 1 row) (omega (arith, length-drop 1 row, g.size_is))

    pub list_end : n ≡ total → ParsedInto (Coded f most) (counted (element_bytes f)) s at (λ xs. FlatPart row 0 (Part.listed xs)) to
    list_end e = record {
      value = take n (drop 1 row);
      parsed = counted_found (codes f) most small p g.going (long ∙ e);
      put = (g.first ∙ sym (long ∙ e), ap (λ (k : ℕ). take k (drop 1 row)) long);
    }

    pub list_stuck : n < total → NoNext (codes f) s to least → Unparsed (Coded f most) (counted (element_bytes f)) s at
    list_stuck h u = counted_stuck (codes f) most small p g.going (omega (arith, long)) u

-- the first byte is not that of the sign
pub not_everything : (s : List ℕ) (at : ℕ) → (at < length s → get_or s at 0 ≡ 255 → ⊥) → (r : List ℕ) → drop at s ≡ 255 ∷ r → ⊥
not_everything s at u r e =
    let h : at < length s = omega (arith, sym (length-drop at s) ∙ ap length e) in
    u h (head_same (sym (drop_byte s at h) ∙ e))

-- a part that stands at a place, by its first byte
module _ (f : Form) {most : ℕ} (few : most ≤ most_listed) (all : Bool) (s : List ℕ) (at : ℕ) where
  module _ (e : drop at s ≡ 255 ∷ drop (at + 1) s) where
    pub part_sign : at < length s → all ≡ true → (row : List ℕ) → get_or row 0 0 ≡ everything_sign
        → ParsedInto (PartGood f most all) (part_bytes (element_bytes f)) s at (FlatPart row 0) (at + 1)
    part_sign h b row i =
        record { value = Part.everything; parsed = record { is_good = b; shape = e; ends = refl; room = omega arith }; put = i }

  pub part_from_list : ((r : List ℕ) → drop at s ≡ 255 ∷ r → ⊥) → (row : List ℕ) (o : Option ℕ)
      → AnswerInto (Coded f most) (counted (element_bytes f)) s at (λ xs. FlatPart row 0 (Part.listed xs)) o
      → AnswerInto (PartGood f most all) (part_bytes (element_bytes f)) s at (FlatPart row 0) o
  part_from_list u row (Some next) v = record { value = Part.listed v.value; parsed = of_list v.parsed; put = v.put }
    where
      of_list : {xs : List ℕ} → Parsed (Coded f most) (counted (element_bytes f)) s at xs next
          → Parsed (PartGood f most all) (part_bytes (element_bytes f)) s at (Part.listed xs) next
      of_list p = record { is_good = p.is_good; shape = p.shape; ends = p.ends; room = p.room }
  part_from_list u row None none = other
    where
      other : (p : Part ℕ) (r : List ℕ) → PartGood f most all p → drop at s ≡ part_bytes (element_bytes f) p ++ r → ⊥
      other (Part.listed ys) r h i = none ys r h i
      other Part.everything r h i = u r i
