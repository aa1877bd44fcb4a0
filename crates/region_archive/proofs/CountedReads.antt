-- Answers of the reading functions, bytes that count, and the next place of an array.
use mathlib.Core.Path.{◌≡◌, sym, ap, ◌∙◌}
use mathlib.Core.List.{List, [], ◌∷◌, ◌++◌}
use Prim.Native.Nat.{ℕ, ◌+◌, ◌/◌, ◌%◌, ◌^◌, ◌≤◌, ◌<◌}
use native.Mathlib.Numerals.{add-one}
use native.Mathlib.Omega.{arith}
use lib.ListN.{length, take, drop, set}
use lib.Seq.{take-suc-set}
use Rattle.big_endian.specs.Bytes.{big}
use Rattle.big_endian.specs.Parsing.{Parsed, Unparsed}
use Rattle.big_endian.proofs.Delimits.{big_same}

-- what stands at a place is good in another way too
pub parsed_as : {A : Type 0} {good other : A → Type 0} {bytes : A → List ℕ} {s : List ℕ} {at : ℕ} {x : A} {next : ℕ} → other x
    → Parsed good bytes s at x next → Parsed other bytes s at x next
parsed_as g p = record { is_good = g; shape = p.shape; ends = p.ends; room = p.room }

-- a byte that stands at a place
pub byte_stands : {good : ℕ → Type 0} {s : List ℕ} {at n next : ℕ} → n < 256 → Parsed good (big 1) s at n next → drop at s ≡ n ∷ drop next s
byte_stands {s = s} {n = n} {next} h p =
    let e : n / 1 % 256 ≡ n = omega arith in
    p.shape ∙ ap (λ (m : ℕ). m ∷ drop next s) e

-- a byte counts more than it may
pub count_over : {s : List ℕ} {at n next : ℕ} → Parsed (λ m. m < 256 ^ 1) (big 1) s at n next → {most : ℕ} → most < 256 → most < n
    → Unparsed (λ m. m ≤ most) (big 1) s at
count_over {s} {n = n} {next} p small h z r k f = omega (arith, (big_same 1 n z (drop next s) r p.is_good (omega arith) (sym p.shape ∙ f)).0)

-- the next place of an array is set
pub take_set : {A : Type 0} (l : List A) (n : ℕ) (x : A) → n < length l → take (n + 1) (set l n x) ≡ take n l ++ (x ∷ [])
take_set l n x h = rw add-one (take-suc-set l n x h)
