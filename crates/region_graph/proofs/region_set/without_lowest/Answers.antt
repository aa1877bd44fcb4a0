use mathlib.Core.Path.{◌≡◌, sym, ap, ◌∙◌}
use Prim.Native.Nat.{ℕ, ◌+◌, ◌-◌, ◌%◌, ◌^◌, ◌<◌}
use native.Mathlib.Omega.{arith}
use native.Mathlib.Decide.{dec_lt}
use lib.Bits.{bit_and}
use lib.Count.{count_trailing_zeros}
use borrow.Author.Rules.{rules}
use borrow.Author.Tests.{lt-ltb}
use Rattle.region_graph.specs.Size.{regions}
use Rattle.region_graph.specs.Lists.{pick}
use Rattle.region_graph.specs.Sets.{singleton}
use Rattle.region_graph.proofs.Bits.{in_lt, low_in, lowest_off}
use Rattle.region_graph.proofs.region_set.without_lowest.Goals as goal

-- a set less one, modulo 2 ^ 64
without : (x : ℕ) → x < 2 ^ 64 → Dec (0 < x)
    → bit_and x ((x + 18446744073709551615) % 18446744073709551616) ≡ bit_and x (18446744073709551615 - singleton (count_trailing_zeros 64 x))
without x word (yes pos) =
    let low = count_trailing_zeros 64 x in
    let less : (x + 18446744073709551615) % 18446744073709551616 ≡ x - 1 = omega arith in
    let alone : 2 ^ low ≡ singleton low = sym (ap (λ b. pick b (2 ^ low) 0) (lt-ltb low regions (in_lt 64 x low word (low_in 64 x pos word)))) in
    rw less (lowest_off 64 x pos word ∙ ap (λ (y : ℕ). bit_and x (2 ^ 64 - 1 - y)) alone)
without x word (no none) =
    let e : x ≡ 0 = omega arith in
    rw e

pub returns : goal.returns
returns c = without c.args.set (search rules) (dec_lt 0 c.args.set)
