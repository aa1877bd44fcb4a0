use native.Mathlib.Omega.{arith}
use Rattle.region_archive.proofs.Writes.{lower_more}
use Rattle.region_archive.proofs.numbers.put_number.Goals as goal

pub loop-left-preserved : goal.loop-left-preserved
loop-left-preserved c = (omega arith, lower_more c.loop-left.invariant.1 (omega arith) (omega arith))
