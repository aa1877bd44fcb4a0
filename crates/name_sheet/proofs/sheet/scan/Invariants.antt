use Prim.Native.Nat.{◌-◌}
use lib.ListN.{length}
use Rattle.name_sheet.proofs.Scanning.{Scanning}
use Rattle.name_sheet.proofs.sheet.scan.Given as goal

abbrev pub invariant-loop-at : goal.invariant-loop-at
invariant-loop-at l = Scanning l.sheet l.kind l.number l.at l.least l.found

abbrev pub decreases-loop-at : goal.decreases-loop-at
decreases-loop-at l = length l.sheet - l.at
