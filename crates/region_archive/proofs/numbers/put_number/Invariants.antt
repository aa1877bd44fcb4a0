use Prim.Native.Nat.{◌≤◌}
use Rattle.region_archive.proofs.Writes.{Lower}
use Rattle.region_archive.proofs.numbers.put_number.Given as goal

abbrev pub invariant-loop-left : goal.invariant-loop-left
invariant-loop-left l = (l.left ≤ l.width) × Lower l.initial.buffer l.buffer l.at l.width l.number l.left l.rest
