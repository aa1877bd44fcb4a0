-- The tests of a record's first two numbers: the order first, then the rest.
use mathlib.Core.Path.{◌≡◌, sym, ap, ◌∙◌}
use mathlib.Core.Bool.{Bool, true, false, not, ◌&&◌}
use Prim.Native.Nat.{ℕ, ◌≤◌, ◌<◌}
use native.Mathlib.Omega.{arith}
use borrow.Author.Tests.{le-leb, lt-leb, eq-eqb, ne_eqb}
use lib.Dec.{leb}
use Rattle.region_graph.specs.Lists.{member}
use Rattle.region_graph.specs.Sets.{has, members}
use Rattle.region_graph.proofs.Lists.{and_left}
use Rattle.region_graph.proofs.Storing.{has_member}
use Rattle.region_archive.specs.RecordFields.{source_held, ends_differ}
use Rattle.region_archive.specs.declared.record_fields.Section.{Section}

-- the order is too low, or only the rest counts
module _ {k n : ℕ} (e : k ≡ n) {floor : ℕ} where
  pub low_order : (t : Bool) → k < floor → false ≡ (leb floor n && t)
  low_order t h = sym (and_left t (lt-leb floor n (omega arith)))

  pub high_order : {t u : Bool} → floor ≤ k → t ≡ u → t ≡ (leb floor n && u)
  high_order {u = u} h f = f ∙ sym (ap (λ (v : Bool). v && u) (le-leb floor n (omega arith)))

second_has : (x b : ℕ) {v t : Bool} → v ≡ true → t ≡ has x b → t ≡ (v && member b (members x))
second_has x b d g = g ∙ has_member x b ∙ sym (ap (λ (v : Bool). v && member b (members x)) d)

-- the rest, by the section
module _ {s : Section} (x a : ℕ) where
  pub first_bundle : {v : ℕ} → s ≡ Section.Bundles v → true ≡ source_held s (members x) a
  first_bundle f = sym (ap (λ (t : Section). source_held t (members x) a) f)

  pub first_connection : {v : ℕ} → s ≡ Section.Connections v → {t : Bool} → t ≡ has x a → t ≡ source_held s (members x) a
  first_connection f g = g ∙ has_member x a ∙ sym (ap (λ (t : Section). source_held t (members x) a) f)

  module _ (b : ℕ) where
    pub second_equal : {v : ℕ} → s ≡ Section.Connections v → a ≡ b → false ≡ (ends_differ s a b && member b (members x))
    second_equal f g = sym (and_left (member b (members x)) (ap (λ (t : Section). ends_differ t a b) f ∙ ap not (eq-eqb a b g)))

    pub second_bundle : {v : ℕ} → s ≡ Section.Bundles v → {t : Bool} → t ≡ has x b → t ≡ (ends_differ s a b && member b (members x))
    second_bundle f = second_has x b (ap (λ (t : Section). ends_differ t a b) f)

    pub second_connection : {v : ℕ} → s ≡ Section.Connections v → (a ≡ b → ⊥) → {t : Bool} → t ≡ has x b
        → t ≡ (ends_differ s a b && member b (members x))
    second_connection f g = second_has x b (ap (λ (t : Section). ends_differ t a b) f ∙ ap not (ne_eqb a b g))
