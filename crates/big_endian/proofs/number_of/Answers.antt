use Prim.Native.Nat.{◌<◌}
use native.Mathlib.Omega.{arith}
use Rattle.big_endian.specs.Numbers.{longest}
use Rattle.big_endian.proofs.Digits.{number_more, next_within}
use Rattle.big_endian.proofs.number_of.Goals as goal

-- the number with one byte more is one of at most eight bytes
pub overflow_add-number : goal.overflow_add-number
overflow_add-number c =
    let byte : c.from.result < 256 = omega (arith, c.type_inv.bytes c.loop-byte.byte-index) in
    record { fits = next_within {w = longest} (omega arith) c.loop-byte.invariant.0 byte }

pub overflow_mul-number : goal.overflow_mul-number
overflow_mul-number c = record { fits = omega (arith, next_within {w = longest} {b = 0} (omega arith) c.loop-byte.invariant.0 (omega arith)) }

pub loop-byte-preserved : goal.loop-byte-preserved
loop-byte-preserved c = number_more c.args.bytes.now c.loop-byte.invariant (omega arith) c.from.ensures (omega (arith, c.type_inv.bytes c.loop-byte.byte-index))
