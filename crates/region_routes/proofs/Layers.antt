-- Layers of regions by their distance from H, in any graph, and what they say of routes.
use mathlib.Core.Path.{◌≡◌, refl, sym, ap, subst}
use mathlib.Core.Logic.{◌⊎◌, inl, inr}
use mathlib.Core.List.{List, [], ◌∷◌}
use Prim.Native.Nat.{ℕ, zero, suc, ◌≤◌, ◌<◌}
use native.Mathlib.Nat.{le_refl, le_of_lt, le_trans, lt_of_lt_of_le, eq-or-lt_of_le}
use native.Mathlib.Omega.{arith}
use lib.ListN.{length}
use Rattle.region_routes.specs.Route.{Route, last, next, SmallerFirst, Best}
use Rattle.region_routes.specs.Search.{Layered}
use Rattle.region_routes.proofs.RouteLaws.{lt_or_ge, nonempty, head_lex}

-- a region of H by itself
pub best_last : {E : ℕ → ℕ → Type 0} {H : ℕ → Type 0} {r : ℕ} → H r → Best E H r (r ∷ [])
best_last {E} {H} {r} h = record {
  route = last h;
  fewest = λ q t. nonempty t;
  smallest = λ q t e. go t e;
}
  where
    go : {q : List ℕ} → Route E H r q → 1 ≡ length q → SmallerFirst (r ∷ []) q
    go (last k) e = inr (refl, tt)
    go (next f u) e = absurd (omega (arith, nonempty u))

module _ {E : ℕ → ℕ → Type 0} {H : ℕ → Type 0} {L : ℕ → ℕ → Type 0} {k : ℕ} (ly : Layered E H L k) where
  -- the first of the layers
  pub shallower : (j : ℕ) → j ≤ k → Layered E H L j
  shallower j m = record {
    base = ly.base;
    holds = ly.holds;
    back = λ i n l. ly.back i n (lt_of_lt_of_le l m);
    closed = λ i n s l. ly.closed i n s (lt_of_lt_of_le l m);
    apart = λ i d n l u. ly.apart i d n l (le_trans u m);
  }

  -- a route of d connections, d ≤ k, starts in a layer up to d
  pub near : {r : ℕ} {p : List ℕ} → Route E H r p → length p ≤ suc k → (i : ℕ) × (suc i ≤ length p) × (L i r)
  near (last {r = r} h) l = (0, le_refl 1, ly.base r h)
  near (next {r = r} {s = s} {p = p} e t) l =
      let a = near t (omega arith) in
      let b = ly.closed a.0 r s (omega (arith, a.1)) e a.2 in
      (b.0, omega (arith, a.1, b.1), b.2)

  -- no route from a region of layer d has fewer than d connections
  pub fewest : {r : ℕ} {q : List ℕ} (d : ℕ) → d ≤ k → L d r → Route E H r q → suc d ≤ length q
  fewest {r} {q} d l h t = go (lt_or_ge d (length q))
    where
      go : (d < length q) ⊎ (length q ≤ d) → suc d ≤ length q
      go (inl m) = m
      go (inr m) =
          let a = near t (omega arith) in
          absurd (ly.apart a.0 d r (omega (arith, a.1)) l a.2 h)

  -- where a route from layer d + 1 has d + 1 connections, its second region is in layer d
  pub second : {r s : ℕ} {q : List ℕ} (d : ℕ) → d < k → L (suc d) r → E r s → Route E H s q → length q ≡ suc d → L d s
  second {r} {s} {q} d l h e t m =
      let a = near t (omega arith) in
      let c = ly.closed a.0 r s (omega (arith, a.1)) e a.2 in
      go a.0 a.1 a.2 c.0 c.1 c.2 (lt_or_ge c.0 (suc d))
    where
      go : (i : ℕ) → suc i ≤ length q → L i s → (j : ℕ) → j ≤ suc i → L j r → (j < suc d) ⊎ (suc d ≤ j) → L d s
      go i a b j u x (inl y) = absurd (ly.apart j (suc d) r y l x h)
      go i a b j u x (inr y) = let z : i ≡ d = omega arith in subst (λ (o : ℕ). L o s) z b

  -- the smallest next region, and the best route from it
  pub best_next : {r s : ℕ} {p : List ℕ} (d : ℕ) → d < k → L (suc d) r → E r s → ((n : ℕ) → E r n → L d n → s ≤ n)
      → length p ≡ suc d → Best E H s p → Best E H r (r ∷ p)
  best_next {r} {s} {p} d l h e low m b = record {
    route = next e b.route;
    fewest = λ q t. omega (arith, fewest (suc d) l h t);
    smallest = λ q t u. go t u;
  }
    where
      go : {q : List ℕ} → Route E H r q → suc (length p) ≡ length q → SmallerFirst (r ∷ p) q
      go (last x) u = absurd (omega arith)
      go (next {s = s'} {p = q} f t) u = inr (refl, pick (eq-or-lt_of_le (low s' f (second d l h f t (omega arith)))))
        where
          pick : (s ≡ s') ⊎ (s < s') → SmallerFirst p q
          pick (inl x) = b.smallest q (subst (λ (z : ℕ). Route E H z q) (sym x) t) (omega arith)
          pick (inr x) = head_lex b.route t x

  -- a region of layer d has a route of d connections
  pub trail : (d r : ℕ) → d ≤ k → L d r → (p : List ℕ) × (Route E H r p) × (length p ≡ suc d)
  trail zero r l h = (r ∷ [], last (ly.holds r h), refl)
  trail (suc d) r l h =
      let b = ly.back d r l h in
      let t = trail d b.0 (le_of_lt l) b.2 in
      (r ∷ t.0, next b.1 t.1, ap suc t.2)
