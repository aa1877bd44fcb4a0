-- Routes over any passing relation and any ending test: a route has a first region, the best route is one alone, and routes carry over to
-- another description of the same connections.
use mathlib.Core.Path.{◌≡◌, refl, sym, ap₂}
use mathlib.Core.Logic.{◌⊎◌, inl, inr}
use mathlib.Core.List.{List, [], ◌∷◌}
use Prim.Native.Nat.{ℕ, zero, suc, ◌≤◌, ◌<◌, zero-le, suc-le-suc}
use native.Mathlib.Nat.{le_refl, le_antisymm}
use native.Mathlib.Omega.{arith}
use lib.ListN.{length}
use Rattle.region_routes.specs.Route.{Route, last, next, SmallerFirst, Best}

pub lt_or_ge : (a b : ℕ) → (a < b) ⊎ (b ≤ a)
lt_or_ge a zero = inr zero-le
lt_or_ge zero (suc b) = inl (suc-le-suc zero-le)
lt_or_ge (suc a) (suc b) = go (lt_or_ge a b)
  where
    go : (a < b) ⊎ (b ≤ a) → (suc a < suc b) ⊎ (suc b ≤ suc a)
    go (inl h) = inl (suc-le-suc h)
    go (inr h) = inr (suc-le-suc h)

pub lex_antisym : (p q : List ℕ) → length p ≡ length q → SmallerFirst p q → SmallerFirst q p → p ≡ q
lex_antisym [] [] e a b = refl
lex_antisym [] (y ∷ q) e a b = absurd (omega arith)
lex_antisym (x ∷ p) [] e a b = absurd (omega arith)
lex_antisym (x ∷ p) (y ∷ q) e (inl a) (inl b) = absurd (omega arith)
lex_antisym (x ∷ p) (y ∷ q) e (inl a) (inr b) = absurd (omega (arith, b.0))
lex_antisym (x ∷ p) (y ∷ q) e (inr a) (inl b) = absurd (omega (arith, a.0))
lex_antisym (x ∷ p) (y ∷ q) e (inr a) (inr b) = ap₂ (λ (z : ℕ) (t : List ℕ). z ∷ t) a.0 (lex_antisym p q (omega arith) a.1 b.1)

module _ {E : ℕ → ℕ → Type 0} {H : ℕ → Type 0} where
  -- a route has a first region
  pub nonempty : {r : ℕ} {p : List ℕ} → Route E H r p → 1 ≤ length p
  nonempty (last h) = le_refl 1
  nonempty (next e t) = suc-le-suc zero-le

  -- a route from a smaller region comes first
  pub head_lex : {r s : ℕ} {p q : List ℕ} → Route E H r p → Route E H s q → r < s → SmallerFirst p q
  head_lex (last h) (last k) l = inl l
  head_lex (last h) (next f u) l = inl l
  head_lex (next e t) (last k) l = inl l
  head_lex (next e t) (next f u) l = inl l

  -- two best routes are one
  pub best_unique : {r : ℕ} {p q : List ℕ} → Best E H r p → Best E H r q → p ≡ q
  best_unique {r} {p} {q} a b =
      let e : length p ≡ length q = le_antisymm (a.fewest q b.route) (b.fewest p a.route) in
      lex_antisym p q e (a.smallest q b.route e) (b.smallest p a.route (sym e))

-- the same routes where E and E', H and H' say the same
module _ {E E' : ℕ → ℕ → Type 0} {H H' : ℕ → Type 0} (f : (r s : ℕ) → E r s → E' r s) (g : (r : ℕ) → H r → H' r) where
  pub carry : {r : ℕ} {p : List ℕ} → Route E H r p → Route E' H' r p
  carry (last {r = r} h) = last (g r h)
  carry (next {r = r} {s = s} e t) = next (f r s e) (carry t)

pub carry_best : {E E' : ℕ → ℕ → Type 0} {H H' : ℕ → Type 0} → ((r s : ℕ) → E r s → E' r s) → ((r : ℕ) → H r → H' r)
    → ((r s : ℕ) → E' r s → E r s) → ((r : ℕ) → H' r → H r) → {r : ℕ} {p : List ℕ} → Best E H r p → Best E' H' r p
carry_best f g f' g' b = record {
  route = carry f g b.route;
  fewest = λ q t. b.fewest q (carry f' g' t);
  smallest = λ q t e. b.smallest q (carry f' g' t) e;
}
