-- Document 01, "Routes", over any passing relation E and any ending test H.
use Rattle.std.specs.Prelude.{◌≡◌, ◌⊎◌, List, [], ◌∷◌, ℕ, ◌<◌, ◌≤◌, length}

-- a route from r: a list of regions, the first r, each next one reached by a connection that passes, the last one that ends it
pub data Route (E : ℕ → ℕ → Type 0) (H : ℕ → Type 0) : ℕ → List ℕ → Type 0 where
  last : {r : ℕ} → H r → Route E H r (r ∷ [])
  next : {r s : ℕ} {p : List ℕ} → E r s → Route E H s p → Route E H r (r ∷ p)

abbrev pub NoRoute : (ℕ → ℕ → Type 0) → (ℕ → Type 0) → ℕ → Type 0
NoRoute E H r = (p : List ℕ) → Route E H r p → ⊥

-- the first list has the smaller number where the two first differ, or they do not differ
abbrev pub SmallerFirst : List ℕ → List ℕ → Type 0
SmallerFirst [] q = Unit {0}
SmallerFirst (x ∷ p) [] = Unit {0}
SmallerFirst (x ∷ p) (y ∷ q) = (x < y) ⊎ ((x ≡ y) × SmallerFirst p q)

-- a route with fewest connections; among those the one whose region number is smaller where two first differ
pub record Best (E : ℕ → ℕ → Type 0) (H : ℕ → Type 0) (r : ℕ) (p : List ℕ) : Type 0 where
  pub route : Route E H r p
  pub fewest : (q : List ℕ) → Route E H r q → length p ≤ length q
  pub smallest : (q : List ℕ) → Route E H r q → length p ≡ length q → SmallerFirst p q
