-- Laws of `WrittenAt`: writes one after the other are one write.
use mathlib.Core.Path.{◌≡◌, refl, sym, ap, ◌∙◌, subst}
use mathlib.Core.List.{List, [], ◌∷◌, ◌++◌, append_assoc}
use Prim.Native.Nat.{ℕ, suc, ◌+◌, ◌-◌, ◌≤◌, ◌<◌}
use native.Mathlib.Numerals.{add-one}
use native.Mathlib.Nat.{add-zero}
use native.Mathlib.Omega.{arith}
use lib.ListN.{length, take, drop, set, length-append, length-drop, take-append-drop}
use lib.Seq.{set_split, take_at, drop_at, take-append-le, take-take, drop-append-add, drop-drop, length-take-le}
use borrow.Rule.Slice.PartMut.{put_mid}
use Rattle.text_lines.specs.Written.{WrittenAt}

-- no bytes are written at any place
pub wrote_none : (old : List ℕ) (at : ℕ) → at ≤ length old → WrittenAt old old at [] at
wrote_none old at h = record { shape = sym (take-append-drop at old); ends = sym (add-zero at); room = h }

-- one byte
pub wrote_byte : (old : List ℕ) (at b : ℕ) → at < length old → WrittenAt old (set old at b) at (b ∷ []) (at + 1)
wrote_byte old at b h = record { shape = rw add-one (set_split old at b h); ends = refl; room = omega arith }

module _ {old new : List ℕ} {at next : ℕ} {xs : List ℕ} where
  -- what stands before the end of a write
  wrote_front : WrittenAt old new at xs next → length (take at old ++ xs) ≡ next
  wrote_front w = rw (length-append, length-take-le at old (omega (arith, w.ends, w.room))) (sym w.ends)

  -- a write keeps the length
  pub wrote_length : WrittenAt old new at xs next → length new ≡ length old
  wrote_length w =
      rw (w.shape, ← append_assoc (take at old) xs (drop next old), length-append, wrote_front w, length-drop) (omega (arith, w.room))

  -- a write and one at its end
  pub wrote_then : {last : List ℕ} {end : ℕ} {ys : List ℕ} → WrittenAt old new at xs next → WrittenAt new last next ys end
      → WrittenAt old last at (xs ++ ys) end
  wrote_then {last} {end} {ys} v w =
      record {
        shape = w.shape ∙ ap (λ (l : List ℕ). l ++ (ys ++ drop end new)) front ∙ ap (λ (l : List ℕ). (take at old ++ xs) ++ (ys ++ l)) back
            ∙ simp append_assoc;
        ends = simp length-append (omega (arith, v.ends, w.ends));
        room = omega (arith, w.room, wrote_length v);
      }
    where
      split : new ≡ (take at old ++ xs) ++ drop next old
      split = v.shape ∙ sym (append_assoc (take at old) xs (drop next old))

      front : take next new ≡ take at old ++ xs
      front = rw split (take_at (take at old ++ xs) (drop next old) next (wrote_front v))

      e : end ≡ length (take at old ++ xs) + length ys
      e = omega (arith, wrote_front v, w.ends)

      back : drop end new ≡ drop end old
      back =
          ap (λ (n : ℕ). drop n new) e ∙ ap (drop (length (take at old ++ xs) + length ys)) split
          ∙ drop-append-add (take at old ++ xs) (drop next old) (length ys)
          ∙ drop-drop (length ys) next old ∙ ap (λ (n : ℕ). drop n old) (sym w.ends)

-- nothing more is written yet
pub wrote_start : {old new : List ℕ} {at next : ℕ} {xs : List ℕ} → WrittenAt old new at xs next → WrittenAt new new next [] next
wrote_start {new = new} {next = next} w = wrote_none new next (omega (arith, w.room, wrote_length w))

-- other words for what was written
pub wrote_is : {old new : List ℕ} {at next : ℕ} {xs ys : List ℕ} → xs ≡ ys → WrittenAt old new at xs next → WrittenAt old new at ys next
wrote_is {old} {new} {at} {next} e w = subst (λ (l : List ℕ). WrittenAt old new at l next) e w

-- where two pieces of what has room are written, the next piece has room
pub wrote_room : {old mid new front xs : List ℕ} {at from to : ℕ} (n k : ℕ) → WrittenAt old mid at front from → WrittenAt mid new from xs to
    → at + n ≤ length old
    → length front + length xs + k ≤ n → to + k ≤ length new
wrote_room n k v w h l = omega (arith, v.ends, w.ends, wrote_length v, wrote_length w)

-- a byte put in front of what was written joins it
pub wrote_before : {old new : List ℕ} {from at next : ℕ} {xs : List ℕ} (b : ℕ) → from ≡ suc at → WrittenAt old new from xs next
    → WrittenAt old (set new at b) at (b ∷ xs) next
wrote_before {old} {new} {from} {at} {next} {xs} b e v =
    record {
      shape = set_split new at b (omega (arith, wrote_length w, w.ends, w.room)) ∙ ap (λ (l : List ℕ). l ++ (b ∷ drop (suc at) new)) front
          ∙ ap (λ (l : List ℕ). take at old ++ (b ∷ l)) back;
      ends = omega (arith, w.ends);
      room = w.room;
    }
  where
    w : WrittenAt old new (suc at) xs next
    w = subst (λ (n : ℕ). WrittenAt old new n xs next) e v

    long : length (take (suc at) old) ≡ suc at
    long = length-take-le (suc at) old (omega (arith, w.ends, w.room))

    front : take at new ≡ take at old
    front = ap (take at) w.shape ∙ take-append-le at (take (suc at) old) (xs ++ drop next old) (omega (arith, long))
        ∙ take-take at (suc at) old (omega arith)

    back : drop (suc at) new ≡ xs ++ drop next old
    back = ap (drop (suc at)) w.shape ∙ drop_at (take (suc at) old) (xs ++ drop next old) (suc at) long

-- where there is room for two pieces, there is for the first, and once it is written for the second
pub room_first : (xs ys : List ℕ) (at n : ℕ) → at + length (xs ++ ys) ≤ n → at + length xs ≤ n
room_first xs ys at n h = omega (arith, length-append xs ys)

pub room_rest : {old new xs : List ℕ} {at to : ℕ} (ys : List ℕ) → WrittenAt old new at xs to → at + length (xs ++ ys) ≤ length old
    → to + length ys ≤ length new
room_rest {xs = xs} ys w h = omega (arith, length-append xs ys, w.ends, wrote_length w)

-- a list copied to a place
pub wrote_copy : {old xs ys : List ℕ} {at : ℕ} → ys ≡ xs → at + length xs ≤ length old
    → WrittenAt old (put_mid at (at + length xs - at) old ys) at xs (at + length xs)
wrote_copy {old} {xs} {ys} {at} e h =
    let k : at + length xs - at ≡ length xs = omega arith in
    record { shape = rw (e, k, drop-drop (length xs) at old); ends = refl; room = h }
