-- Candidates from lists of their parts, and a loop that writes the parts of those that pass a test to the starts of three lent lists.
use mathlib.Core.Path.{◌≡◌, refl, sym, ap, subst}
use mathlib.Core.Bool.{Bool, true, false}
use mathlib.Core.List.{List, [], ◌∷◌}
use Prim.Native.Nat.{ℕ, zero, suc, ◌+◌, ◌≤◌, ◌<◌, min}
use native.Mathlib.Omega.{arith}
use lib.ListN.{length, get_or, set}
use Rattle.region_graph.specs.Lists.{keep}
use Rattle.region_routes.specs.Hooks.{Outcome, Kept, kept}
use Rattle.region_routes.specs.Resolve.{Candidate, no_candidate, candidates, resolved}
use Rattle.region_routes.specs.Tables.{Room}
use Rattle.region_routes.proofs.Keeping.{KeepingPart, part_start, part_passed, part_failed, part_count, part_exit}

-- the shortest list counts
pub candidates_length : (es ns vs : List ℕ) → length (candidates es ns vs) ≡ min (min (length es) (length ns)) (length vs)
candidates_length [] ns vs = omega arith
candidates_length (e ∷ es) [] vs = omega arith
candidates_length (e ∷ es) (n ∷ ns) [] = omega arith
candidates_length (e ∷ es) (n ∷ ns) (v ∷ vs) = omega (arith, candidates_length es ns vs)

-- the parts at a place make up the candidate there
pub candidate_at : (es ns vs : List ℕ) (i : ℕ) → i < length (candidates es ns vs)
    → get_or (candidates es ns vs) i no_candidate ≡ record { exporter = get_or es i 0; number = get_or ns i 0; version = get_or vs i 0 }
candidate_at [] ns vs i h = absurd (omega arith)
candidate_at (e ∷ es) [] vs i h = absurd (omega arith)
candidate_at (e ∷ es) (n ∷ ns) [] i h = absurd (omega arith)
candidate_at (e ∷ es) (n ∷ ns) (v ∷ vs) zero h = refl
candidate_at (e ∷ es) (n ∷ ns) (v ∷ vs) (suc i) h = candidate_at es ns vs i (omega arith)

-- the lists to which the parts are written
pub record Columns : Type 0 where
  pub exporters : List ℕ
  pub numbers : List ℕ
  pub versions : List ℕ

abbrev pub columns : List ℕ → List ℕ → List ℕ → Columns
columns es ns vs = record { exporters = es; numbers = ns; versions = vs }

-- of the first i candidates those that pass are written, part by part, by each test of a family
pub record Resolving {T : Type 0} (p : T → Candidate → Bool) (cs : List Candidate) (i n : ℕ) (entry out : Columns) : Type 0 where
  pub exporters : KeepingPart p (λ c. c.exporter) cs i n entry.exporters out.exporters
  pub numbers : KeepingPart p (λ c. c.number) cs i n entry.numbers out.numbers
  pub versions : KeepingPart p (λ c. c.version) cs i n entry.versions out.versions

module _ {T : Type 0} {p : T → Candidate → Bool} {cs : List Candidate} {entry : Columns} where
  pub resolving_start : Room cs entry.exporters entry.numbers entry.versions → Resolving p cs 0 0 entry entry
  resolving_start h = record { exporters = part_start h.0; numbers = part_start h.1.0; versions = part_start h.1.1 }

  module _ {i n : ℕ} {out : Columns} (k : Resolving p cs i n entry out) where
    module _ {c : Candidate} (l : i < length cs) (e : c ≡ get_or cs i no_candidate) where
      at_place : {b : Bool} → ((t : T) → p t c ≡ b) → (t : T) → p t (get_or cs i no_candidate) ≡ b
      at_place {b} h t = subst (λ (x : Candidate). p t x ≡ b) e (h t)

      pub resolving_wrote : ((t : T) → p t c ≡ true)
          → Resolving p cs (i + 1) (n + 1) entry (columns (set out.exporters n c.exporter) (set out.numbers n c.number) (set out.versions n c.version))
      resolving_wrote h = record {
        exporters = part_passed k.exporters no_candidate l (ap (λ (x : Candidate). x.exporter) e) (at_place h);
        numbers = part_passed k.numbers no_candidate l (ap (λ (x : Candidate). x.number) e) (at_place h);
        versions = part_passed k.versions no_candidate l (ap (λ (x : Candidate). x.version) e) (at_place h);
      }

      pub resolving_failed : ((t : T) → p t c ≡ false) → Resolving p cs (i + 1) n entry out
      resolving_failed h = record {
        exporters = part_failed k.exporters no_candidate l (at_place h);
        numbers = part_failed k.numbers no_candidate l (at_place h);
        versions = part_failed k.versions no_candidate l (at_place h);
      }

    pub resolving_end : length cs ≤ i → (t : T)
        → ◌≡◌ {A = Outcome Kept (List (List ℕ))} (kept (Kept.Wrote n) (out.exporters ∷ out.numbers ∷ out.versions ∷ []))
        (resolved (keep (p t) cs) (entry.exporters ∷ entry.numbers ∷ entry.versions ∷ []))
    resolving_end h t =
        λ j. kept (Kept.Wrote (part_count k.exporters h t j))
        (part_exit k.exporters h t j ∷ part_exit k.numbers h t j ∷ part_exit k.versions h t j ∷ [])

-- each part of a candidate has its own list, in and out, at equal places
module _ {T : Type 0} {p : T → Candidate → Bool} (es ns vs : List ℕ) {entry out : Columns} {i n : ℕ} (k : Resolving p (candidates es ns vs) i n entry out)
    (l : i < length (candidates es ns vs)) where
  pub resolving_passed : {x y z : ℕ} → x ≡ get_or es i 0 → y ≡ get_or ns i 0 → z ≡ get_or vs i 0
      → ((t : T) → p t (record { exporter = get_or es i 0; number = get_or ns i 0; version = get_or vs i 0 }) ≡ true)
      → Resolving p (candidates es ns vs) (i + 1) (n + 1) entry (columns (set out.exporters n x) (set out.numbers n y) (set out.versions n z))
  resolving_passed e f g h = rw (e, f, g) (resolving_wrote k l (sym (candidate_at es ns vs i l)) h)
