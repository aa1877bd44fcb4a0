-- The members of a set of regions, met one number after the other, and the regions of a valid graph.
use mathlib.Core.Path.{◌≡◌, refl, sym, ap, ◌∙◌}
use mathlib.Core.Bool.{Bool, true, false, cond}
use mathlib.Core.List.{List, [], ◌∷◌, ◌++◌}
use Prim.Native.Nat.{ℕ, ◌+◌, ◌≤◌, ◌<◌}
use native.Mathlib.Omega.{arith}
use lib.ListN.{length, get_or, take, drop, length-append, take-append-drop}
use lib.Seq.{take_all}
use Rattle.std.specs.List.{filter, range_with_len}
use Rattle.region_graph.specs.Size.{regions}
use Rattle.region_graph.specs.Lists.{pick, keep, count_from, member, concat_map}
use Rattle.region_graph.specs.Sets.{has, set_of, members}
use Rattle.region_graph.specs.Record.{Valid, meaning}
use Rattle.region_graph.specs.declared.Graph.{Graph}
use Rattle.region_graph.proofs.Lists.{keep_append, keep_length, keep_took, keep_left, concat_length, count_length, count_at}
use Rattle.region_graph.proofs.Storing.{regions_stored}
use Rattle.big_endian.specs.Bytes.{big}
use Rattle.big_endian.proofs.Digits.{big_length}

-- an element that is kept is one more than those kept before it
kept_before : (p : ℕ → Bool) (l : List ℕ) (i n : ℕ) → keep p (take (i + 1) l) ≡ keep p (take i l) ++ (n ∷ [])
    → length (keep p (take i l)) + 1 ≤ length (keep p l)
kept_before p l i n e =
    let rest = keep p (drop (i + 1) l) in
    omega (
      arith,
      ap length e ∙ length-append (keep p (take i l)) (n ∷ []),
      ap (λ (m : List ℕ). length (keep p m)) (take-append-drop (i + 1) l),
      ap length (keep_append p (take (i + 1) l) (drop (i + 1) l)) ∙ length-append (keep p (take (i + 1) l)) rest,
    )

-- the members of a set below i
abbrev pub met : ℕ → ℕ → List ℕ
met x i = keep (has x) (take i (count_from 0 regions))

-- one number more
module _ (x i : ℕ) (h : i < regions) where
  at : get_or (count_from 0 regions) i 0 ≡ i
  at = count_at 0 regions i h ∙ omega arith

  inside : i < length (count_from 0 regions)
  inside = rw count_length h

  pub met_took : has x i ≡ true → met x (i + 1) ≡ met x i ++ (i ∷ [])
  met_took e = keep_took (has x) (count_from 0 regions) i 0 inside (ap (has x) at ∙ e) ∙ ap (λ (n : ℕ). met x i ++ (n ∷ [])) at

  pub met_left : has x i ≡ false → met x (i + 1) ≡ met x i
  met_left e = keep_left (has x) (count_from 0 regions) i 0 inside (ap (has x) at ∙ e)

-- all of them
pub met_all : (x i : ℕ) → regions ≤ i → met x i ≡ members x
unfolding members
met_all x i h = ap (keep (has x)) (take_all i (count_from 0 regions) (rw count_length h))

-- a member is one more than those below it
met_fewer : (x i : ℕ) → i < regions → has x i ≡ true → length (met x i) + 1 ≤ length (members x)
unfolding members
met_fewer x i h t = kept_before (has x) (count_from 0 regions) i i (met_took x i h t)

-- it is within the bytes of all
pub met_byte : (x i : ℕ) → i < regions → has x i ≡ true → length (concat_map (big 1) (met x i)) + 1 ≤ length (concat_map (big 1) (members x))
met_byte x i h t =
    omega (arith, concat_length (big 1) 1 (big_length 1) (met x i), concat_length (big 1) 1 (big_length 1) (members x), met_fewer x i h t)

-- the numbers that are in a set, by the word of std
pub members_filtered : (x : ℕ) → filter (has x) (range_with_len 0 regions) ≡ members x
unfolding members
members_filtered x = go (count_from 0 regions)
  where
    step : (b : Bool) (r : ℕ) {l m : List ℕ} → l ≡ m → cond b (r ∷ l) l ≡ pick b (r ∷ m) m
    step true r e = ap (λ (n : List ℕ). r ∷ n) e
    step false r e = e

    go : (l : List ℕ) → filter (has x) l ≡ keep (has x) l
    go [] = refl
    go (r ∷ l) = step (has x r) r (go l)

-- no more than there are regions
pub members_few : (x : ℕ) → length (members x) ≤ regions
unfolding members
members_few x = omega (arith, keep_length (has x) (count_from 0 regions), count_length 0 regions)

-- the members of a valid graph's set of regions are its regions
pub set_members : (g : Graph) → Valid g → {x : ℕ} → x ≡ set_of (λ r. member r (meaning g).regions) → members x ≡ (meaning g).regions
unfolding meaning
set_members g v e = ap members (e ∙ sym (regions_stored g v))
