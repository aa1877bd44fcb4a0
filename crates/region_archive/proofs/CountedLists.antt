-- Lists behind a count byte, of at most so many elements in order.
use mathlib.Core.Path.{◌≡◌, refl, sym, ap, ◌∙◌}
use mathlib.Core.List.{List, [], ◌∷◌, ◌++◌, append-nil}
use Prim.Native.Nat.{ℕ, ◌/◌, ◌%◌, ◌≤◌, ◌<◌}
use native.Mathlib.Omega.{arith}
use lib.Dec.{ltb}
use lib.ListN.{length, drop, length-append}
use Rattle.region_graph.specs.Size.{regions}
use Rattle.region_graph.specs.Model.{Sorted}
use Rattle.big_endian.specs.Bytes.{big, counted}
use Rattle.big_endian.specs.Parsing.{Parsed, Unparsed}
use Rattle.big_endian.proofs.Delimits.{Delimits, big_same, head_same, tail_same}
use Rattle.big_endian.proofs.Rows.{Elements, all_bytes, begins, Going, NoNext, going_past}
use Rattle.region_archive.proofs.CountedReads.{byte_stands}

-- the regions
abbrev pub region_bytes : Elements ℕ
region_bytes = record {
  good = λ r. r < regions;
  bytes = big 1;
  before = ltb;
  key = λ r. r;
  same = λ x y r t h g e. big_same 1 x y r t (omega arith) (omega arith) e;
  keyed = λ x y g h. refl;
}

-- what has no elements
none_left : {A : Type 0} (l : List A) → length l ≡ 0 → l ≡ []
none_left [] e = refl
none_left (x ∷ l) e = absurd (omega arith)

module _ {A : Type 0} (k : Elements A) (most : ℕ) where
  abbrev pub InOrder : List A → Type 0
  InOrder = Sorted k.before k.good most

  -- a count and a list in order tell the list
  pub counted_same : Delimits InOrder (counted k.bytes) ◌≡◌
  counted_same xs ys r t h g e =
      let n : length xs ≡ length ys = head_same e in
      let b = begins k xs ys r t h.each g.each (omega arith) (tail_same e) in
      let z : b.rest ≡ [] = none_left b.rest (omega (arith, ap length b.split ∙ length-append xs b.rest)) in
      (sym (b.split ∙ ap (λ (l : List A). xs ++ l) z ∙ append-nil xs), b.left ∙ ap (λ (l : List A). all_bytes k l ++ t) z)

  -- no count, and no list
  pub counted_missing : most < 256 → (s : List ℕ) (from : ℕ) → Unparsed (λ m. m ≤ most) (big 1) s from → Unparsed InOrder (counted k.bytes) s from
  counted_missing small s from u xs t h f =
      let g : length xs ≡ length xs / 1 % 256 = omega (arith, h.few) in
      u (length xs) (all_bytes k xs ++ t) h.few (f ∙ ap (λ (m : ℕ). m ∷ (all_bytes k xs ++ t)) g)

  -- a count, and the list behind it
  module _ (small : most < 256) {s : List ℕ} {from total mid : ℕ} (p : Parsed (λ m. m ≤ most) (big 1) s from total mid)
      {xs : List A} {at least : ℕ} (g : Going k s mid xs at least) where
    byte : drop from s ≡ total ∷ drop mid s
    byte = byte_stands (omega (arith, p.is_good)) p

    pub counted_found : length xs ≡ total → Parsed InOrder (counted k.bytes) s from xs at
    counted_found l = record {
      is_good = record { few = omega (arith, p.is_good); each = g.every; ascend = g.ascend };
      shape = byte ∙ (λ i. sym l i ∷ g.shape i);
      ends = omega (arith, p.ends, g.ends);
      room = g.room;
    }

    pub counted_stuck : length xs < total → NoNext k s at least → Unparsed InOrder (counted k.bytes) s from
    counted_stuck l u ys t h f =
        let d : total ∷ drop mid s ≡ length ys ∷ (all_bytes k ys ++ t) = sym byte ∙ f in
        going_past k g ys t (omega (arith, head_same d)) h.each h.ascend (tail_same d) u
