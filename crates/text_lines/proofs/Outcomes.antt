-- Puts and writes: where there is room a put is a write, and so puts one after the other compose as writes do.
use mathlib.Core.Path.{◌≡◌, sym, ap, ◌∙◌}
use mathlib.Core.Bool.{Bool, true, false}
use mathlib.Core.List.{List, ◌++◌}
use Prim.Native.Nat.{ℕ, ◌+◌, ◌≤◌}
use native.Mathlib.Omega.{arith}
use borrow.Author.Tests.{le-leb, leb-true}
use lib.Dec.{leb}
use lib.ListN.{length, take, drop}
use Rattle.region_graph.proofs.Lists.{pick_yes, pick_no}
use Rattle.text_lines.specs.Outcome.{PutAnswer, put, put_outcome}
use Rattle.text_lines.specs.Written.{WrittenAt}
use Rattle.text_lines.proofs.Writes.{wrote_then, room_first, room_rest}

-- what the test of room says of a place
pub has_place : (n size : ℕ) {room : Bool} → room ≡ leb n size → room ≡ true → n ≤ size
has_place n size e f = leb-true n size (sym e ∙ f)

-- the outcome where there is room
abbrev whole : List ℕ → ℕ → List ℕ → PutAnswer
whole entry at xs = put (at + length xs) (take at entry ++ (xs ++ drop (at + length xs) entry))

pub put_whole : (entry : List ℕ) (at : ℕ) (xs : List ℕ) → at + length xs ≤ length entry → put_outcome entry at xs ≡ whole entry at xs
unfolding put_outcome
put_whole entry at xs h = pick_yes (whole entry at xs) (put at entry) (le-leb (at + length xs) (length entry) h)

-- where the test says that there is no room for n bytes, a text of n bytes is not written
pub put_none : (entry : List ℕ) (at : ℕ) (xs : List ℕ) {n : ℕ} {room : Bool} → length xs ≡ n → room ≡ leb (at + n) (length entry) → room ≡ false
    → put at entry ≡ put_outcome entry at xs
unfolding put_outcome
put_none entry at xs e f g =
    sym (pick_no (whole entry at xs) (put at entry) (ap (λ (k : ℕ). leb (at + k) (length entry)) e ∙ sym f ∙ g))

module _ {entry exit : List ℕ} {at next : ℕ} {xs : List ℕ} where
  -- where there is room, a put is a write
  pub put_wrote : put next exit ≡ put_outcome entry at xs → at + length xs ≤ length entry → WrittenAt entry exit at xs next
  put_wrote e h =
      let f : put next exit ≡ whole entry at xs = e ∙ put_whole entry at xs h in
      let g : next ≡ at + length xs = ap (λ (p : PutAnswer). p.next) f in
      record {
        shape = ap (λ (p : PutAnswer). p.exit) f ∙ ap (λ (n : ℕ). take at entry ++ (xs ++ drop n entry)) (sym g);
        ends = g;
        room = omega (arith, g);
      }

  -- and a write is a put
  pub wrote_put : WrittenAt entry exit at xs next → put next exit ≡ put_outcome entry at xs
  wrote_put w =
      let f : exit ≡ take at entry ++ (xs ++ drop (at + length xs) entry) =
      w.shape ∙ ap (λ (n : ℕ). take at entry ++ (xs ++ drop n entry)) w.ends in
      let g : next ≡ at + length xs = w.ends in
      (λ i. put (g i) (f i)) ∙ sym (put_whole entry at xs (omega (arith, w.ends, w.room)))

-- a put in front of a write, where there is room for both
pub puts : {entry mid exit : List ℕ} {at to next : ℕ} (xs rest : List ℕ) → put to mid ≡ put_outcome entry at xs
    → (to + length rest ≤ length mid → WrittenAt mid exit to rest next) → at + length (xs ++ rest) ≤ length entry → WrittenAt entry exit at (xs ++ rest) next
puts {entry} {at = at} xs rest e k h =
    let w = put_wrote e (room_first xs rest at (length entry) h) in
    wrote_then w (k (room_rest rest w h))
