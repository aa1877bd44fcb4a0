-- Bytes that are those of some legal value, or of none.
use mathlib.Core.Path.{◌≡◌, refl, sym, ap, ◌∙◌, subst}
use mathlib.Core.Bool.{Bool, true, false}
use mathlib.Core.List.{List, List-discrete}
use mathlib.Core.Logic.{◌⊎◌, inl, inr}
use Prim.Native.Nat.{ℕ}
use native.Mathlib.Decide.{ℕ_discrete}
use Rattle.region_graph.proofs.Lists.{false_true}
use Rattle.big_endian.proofs.Tested.{Tested}

-- a value that can be read back from its bytes, and whose legality is told by a test
module _ {A : Type 0} {legal : A → Type 0} (bytes : A → List ℕ) (tested : (x : A) → Tested (legal x)) (of : List ℕ → A)
    (back : (x : A) → legal x → of (bytes x) ≡ x) where
  abbrev pub Has : List ℕ → Type 0
  Has s = (x : A) × legal x × (bytes x ≡ s)

  abbrev pub HasNone : List ℕ → Type 0
  HasNone s = (x : A) → legal x → bytes x ≡ s → ⊥

  pub some_or_none : (s : List ℕ) → Has s ⊎ HasNone s
  some_or_none s = go (tested (of s)).test refl (List-discrete ℕ_discrete (bytes (of s)) s)
    where
      same : (x : A) → legal x → bytes x ≡ s → of s ≡ x
      same x l e = ap of (sym e) ∙ back x l

      go : (b : Bool) → (tested (of s)).test ≡ b → Dec (bytes (of s) ≡ s) → Has s ⊎ HasNone s
      go true e (yes f) = inl (of s, (tested (of s)).holds e, f)
      go true e (no f) = inr (λ x l g. f (ap bytes (same x l g) ∙ g))
      go false e d = inr (λ x l g. false_true (sym e ∙ (tested (of s)).tests (subst legal (sym (same x l g)) l)))
