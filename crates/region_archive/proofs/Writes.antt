-- Laws of `WrittenAt` for counted lists and numbers.
use mathlib.Core.Path.{◌≡◌, sym, ap, ◌∙◌}
use mathlib.Core.List.{List, ◌∷◌, ◌++◌}
use Prim.Native.Nat.{ℕ, suc, ◌+◌, ◌-◌, ◌/◌, ◌%◌, ◌^◌, ◌≤◌, ◌<◌}
use native.Mathlib.Nat.{div-one}
use native.Mathlib.Omega.{arith}
use lib.ListN.{length, get_or, take, set}
use lib.Seq.{take_all, take-length}
use Rattle.region_graph.specs.Lists.{concat_map}
use Rattle.text_lines.specs.Written.{WrittenAt}
use Rattle.region_graph.proofs.Lists.{concat_next, concat_within}
use Rattle.text_lines.proofs.Writes.{wrote_none, wrote_then, wrote_is, wrote_before, wrote_length, wrote_room}
use Rattle.big_endian.specs.Bytes.{big, counted}
use Rattle.big_endian.proofs.Digits.{big_one, div_next}

-- a loop writes a count, and then the elements of a list one after the other; it has come to place i
module _ {A : Type 0} (f : A → List ℕ) (xs : List A) {old mid new : List ℕ} {at from to i n : ℕ} (e : n ≡ length xs) (small : n < 256)
    (v : WrittenAt old mid at (big 1 n) from) (w : WrittenAt mid new from (concat_map f (take i xs)) to) where
  -- the next element has room
  pub each_room : i < length xs → (d : A) → at + length (counted f xs) ≤ length old → to + length (f (get_or xs i d)) ≤ length new
  each_room h d room =
      wrote_room (length (counted f xs)) (length (f (get_or xs i d))) v w room
      (omega (arith, concat_within f xs i (length xs) d h (omega arith), ap (λ (l : List A). length (concat_map f l)) (take-length xs)))

  -- all are written
  pub each_all : length xs ≤ i → WrittenAt old new at (counted f xs) to
  each_all h =
      wrote_is
      (ap (λ (l : List ℕ). l ++ concat_map f (take i xs)) (big_one n small) ∙ ap (λ (m : ℕ). m ∷ concat_map f (take i xs)) e
      ∙ ap (λ (l : List A). length xs ∷ concat_map f l) (take_all i xs h)) (wrote_then v w)

-- the next element is written
pub each_next : {A : Type 0} (f : A → List ℕ) (xs : List A) {mid new last : List ℕ} {from to end i : ℕ} (d : A) → i < length xs
    → WrittenAt mid new from (concat_map f (take i xs)) to → WrittenAt new last to (f (get_or xs i d)) end
    → WrittenAt mid last from (concat_map f (take (i + 1) xs)) end
each_next f xs {i = i} d h w u = wrote_is (sym (concat_next f xs i d h)) (wrote_then w u)

-- a count and the elements are a counted list
pub wrote_counted : {A : Type 0} (f : A → List ℕ) (xs : List A) {old mid new : List ℕ} {at to end n : ℕ} {ys : List ℕ} → n ≡ length xs
    → n < 256 → ys ≡ concat_map f xs → WrittenAt old mid at (big 1 n) to → WrittenAt mid new to ys end → WrittenAt old new at (counted f xs) end
wrote_counted f xs {n = n} {ys} e h g v w =
    wrote_is (ap (λ (l : List ℕ). l ++ ys) (big_one n h) ∙ ap (λ (m : ℕ). m ∷ ys) e ∙ ap (λ (l : List ℕ). length xs ∷ l) g) (wrote_then v w)

-- k places are left behind what was written
pub wrote_leaves : {old new : List ℕ} {at : ℕ} {xs : List ℕ} {next : ℕ} → WrittenAt old new at xs next → (k : ℕ)
    → at + (length xs + k) ≤ length old → next + k ≤ length new
wrote_leaves w k h = omega (arith, w.ends, wrote_length w)

-- the lower bytes of a number stand from `left` places on, and `rest` is the number above them
pub record Lower (old new : List ℕ) (at width number left rest : ℕ) : Type 0 where
  pub above : rest ≡ number / 256 ^ (width - left)
  pub written : WrittenAt old new (at + left) (big (width - left) number) (at + width)

pub lower_none : {old : List ℕ} {at width number : ℕ} → at + width ≤ length old → Lower old old at width number width number
lower_none {old} {at} {width} {number} h =
    let e : width - width ≡ 0 = omega arith in
    record { above = rw e (sym (div-one number)); written = rw e (wrote_none old (at + width) h) }

module _ {old new : List ℕ} {at width number left rest : ℕ} (w : Lower old new at width number left rest) where
  -- one byte more
  pub lower_more : 0 < left → left ≤ width → Lower old (set new (at + (left - 1)) (rest % 256)) at width number (left - 1) (rest / 256)
  lower_more h l =
      let k = width - left in
      let e : width - (left - 1) ≡ suc k = omega arith in
      let bytes : rest % 256 ∷ big k number ≡ big (suc k) number = ap (λ (q : ℕ). q % 256 ∷ big k number) w.above in
      record {
        above = rw e (ap (λ (q : ℕ). q / 256) w.above ∙ div_next number k);
        written = rw e (wrote_is bytes (wrote_before (rest % 256) (omega arith) w.written));
      }

  pub lower_all : left ≡ 0 → WrittenAt old new at (big width number) (at + width)
  lower_all z =
      let e : width - left ≡ width = omega arith in
      let f : at + left ≡ at = omega arith in
      rw (e, f) at w.written
