-- The loops of `next_to` and `walk`: the smallest next region, and one region of the best route a turn.
use mathlib.Core.Path.{◌≡◌, refl, sym, subst, ap, ◌∙◌}
use mathlib.Core.Logic.{◌⊎◌, inl, inr}
use mathlib.Core.List.{List, [], ◌∷◌, ◌++◌, append_assoc}
use Prim.Native.Nat.{ℕ, suc, ◌+◌, ◌-◌, ◌≤◌, ◌<◌, ◌^◌}
use native.Mathlib.Numerals.{add-one}
use native.Mathlib.Omega.{arith}
use lib.ListN.{length, get_or, set, drop, length-append, length-set}
use lib.Seq.{set_split, set_at, drop-cons, drop-set-lt}
use lib.Count.{count_trailing_zeros}
use Rattle.region_graph.specs.Size.{regions}
use Rattle.region_graph.proofs.Bits.{low_first}
use Rattle.region_routes.specs.Route.{Best}
use Rattle.region_routes.specs.Search.{In, Conn, At, Leading, Next, Walkable, Walked}
use Rattle.region_routes.proofs.SetLaws.{not_in_empty}
use Rattle.region_routes.proofs.SearchLoops.{Taken}
use Rattle.region_routes.proofs.Layers.{best_last, best_next}

-- ---- the loop of `next_to`

-- the regions of the set x to which a connection from r leads are still in `left`
pub record Looking (pred : List ℕ) (x r left : ℕ) : Type 0 where
  pub word : left < 2 ^ 64
  pub within : (n : ℕ) → In left n → In x n
  pub cover : (n : ℕ) → Conn pred r n → In x n → In left n

module _ {pred : List ℕ} {x r : ℕ} where
  -- none is looked at yet
  pub looking_start : x < 2 ^ 64 → Looking pred x r x
  looking_start f = record { word = f; within = λ n h. h; cover = λ n c h. h }

  module _ {left s : ℕ} (g : Looking pred x r left) where
    -- a connection leads to the lowest
    pub next_here : s ≡ count_trailing_zeros 64 left → In left s → Conn pred r s → Next pred x r s
    next_here e h c = record {
      here = g.within s h;
      conn = c;
      least = λ n k i. subst (λ (y : ℕ). y ≤ n) (sym e) (low_first 64 left n (g.cover n k i));
    }

    -- none leads to the lowest
    pub next_later : {rest : ℕ} → Taken left s rest → (Conn pred r s → ⊥) → Looking pred x r rest
    next_later {rest} t out = record {
      word = omega (arith, t.less, g.word);
      within = λ n h. g.within n (t.kept n h);
      cover = λ n c h. go n c (t.still n (g.cover n c h));
    }
      where
        go : (n : ℕ) → Conn pred r n → (n ≡ s) ⊎ In rest n → In rest n
        go n c (inl q) = absurd (out (subst (Conn pred r) q c))
        go n c (inr h) = h

  -- one is found before all are looked at
  pub next_found : Leading pred x r → Looking pred x r 0 → ⊥
  next_found l g = not_in_empty l.some.0 (g.cover l.some.0 l.some.1 l.some.2)

-- ---- the loop of `walk`

-- r stands at place i, with d connections to go: whatever is best from r is best from the region, behind the regions before r
pub record Walk (pred sets : List ℕ) (deep region : ℕ) (before after : List ℕ) (d i r : ℕ) : Type 0 where
  pub passed : List ℕ
  pub here : At sets d r
  pub sum : d + i ≡ deep
  pub count : length passed ≡ i
  pub long : length after ≡ length before
  pub room : deep < length before
  pub text : after ≡ passed ++ (r ∷ drop (suc i) before)
  pub rest : (p : List ℕ) → Best (Conn pred) (At sets 0) r p → length p ≡ suc d → Best (Conn pred) (At sets 0) region (passed ++ p)

module _ {pred sets : List ℕ} {deep region : ℕ} (wa : Walkable pred sets deep region) where
  -- the region itself is at place 0
  pub walk_start : (out : List ℕ) → regions ≤ length out → Walk pred sets deep region (set out 0 region) (set out 0 region) deep 0 region
  walk_start out l = record {
    passed = [];
    here = wa.here;
    sum = omega arith;
    count = refl;
    long = refl;
    room = omega (arith, length-set out 0 region, wa.low);
    text = set_split out 0 region (omega (arith, wa.low)) ∙ ap (λ (t : List ℕ). region ∷ t) (sym (drop-set-lt 1 out 0 region (omega arith)));
    rest = λ p b e. b;
  }

  module _ {before after : List ℕ} {d i r : ℕ} (w : Walk pred sets deep region before after d i r) where
    -- r is a region
    in_low : r < regions
    in_low = wa.small d r (omega (arith, w.sum)) w.here

    -- the regions up to r
    upto : List ℕ
    upto = w.passed ++ (r ∷ [])

    -- they are so many
    upto_long : length upto ≡ suc i
    unfolding upto
    upto_long = simp length-append (omega (arith, w.count))

    -- and the rest stands behind them
    upto_then : (p : List ℕ) → w.passed ++ (r ∷ p) ≡ upto ++ p
    unfolding upto
    upto_then p = sym (append_assoc w.passed (r ∷ []) p)

    module _ (more : 0 < d) where
      -- r's layer, as the one after the next region's
      now_at : At sets (suc (d - 1)) r
      now_at = let q : d ≡ suc (d - 1) = omega arith in subst (λ (k : ℕ). At sets k r) q w.here

      -- a connection leads from r into the next layer
      pub leading : Leading pred (get_or sets (d - 1) 0) r
      leading = record {
        inside = in_low;
        some = wa.layered.back (d - 1) r (omega (arith, w.sum)) now_at;
      }

    module _ (more : 0 < d) {s : ℕ} (x : Next pred (get_or sets (d - 1) 0) r s) where
      -- the next region is a region
      pub next_low : s < regions
      next_low = wa.small (d - 1) s (omega (arith, w.sum)) x.here

      -- the next region is written
      pub walk_next : Walk pred sets deep region before (set after (i + 1) s) (d - 1) (i + 1) s
      walk_next = rw add-one record {
        passed = upto;
        here = x.here;
        sum = omega (arith, w.sum);
        count = upto_long;
        long = length-set after (suc i) s ∙ w.long;
        room = w.room;
        text =
            ap (λ (t : List ℕ). set t (suc i) s) (w.text
            ∙ ap (λ (t : List ℕ). w.passed ++ (r ∷ t)) (drop-cons before (suc i) 0 (omega (arith, w.sum, w.room)))
            ∙ upto_then (get_or before (suc i) 0 ∷ drop (suc (suc i)) before))
            ∙ set_at upto (get_or before (suc i) 0) (drop (suc (suc i)) before) s (suc i) upto_long;
        rest = λ p b m.
            subst (Best (Conn pred) (At sets 0) region) (upto_then p)
            (w.rest (r ∷ p) (best_next wa.layered (d - 1) (omega (arith, w.sum)) (now_at more) x.conn x.least m b) (omega arith));
      }

-- the route stands in the buffer
pub walk_end : {pred sets : List ℕ} {deep region : ℕ} (out : List ℕ) {after : List ℕ} {d i r : ℕ} → d ≡ 0 → Walkable pred sets deep region
    → Walk pred sets deep region (set out 0 region) after d i r → Walked pred sets deep region out after
unfolding upto
walk_end {sets = sets} {region = region} out {i = i} {r = r} z wa w = record {
  path = upto wa w;
  best = w.rest (r ∷ []) (best_last (subst (λ (k : ℕ). At sets k r) z w.here)) (omega arith);
  counted = omega (arith, upto_long wa w, w.sum);
  exit_is =
      w.text ∙ upto_then wa w (drop (suc i) (set out 0 region))
      ∙ ap (λ (k : ℕ). upto wa w ++ drop k (set out 0 region)) (sym (upto_long wa w))
      ∙ ap (λ (l : List ℕ). upto wa w ++ l) (drop-set-lt (length (upto wa w)) out 0 region (omega (arith, upto_long wa w)));
}
