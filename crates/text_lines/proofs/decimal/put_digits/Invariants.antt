use Rattle.text_lines.proofs.DecimalLaws.{LastWritten}
use Rattle.text_lines.proofs.decimal.put_digits.Given as goal

abbrev pub invariant-loop-left : goal.invariant-loop-left
invariant-loop-left l = LastWritten l.initial.buffer l.at l.width l.number l.buffer l.left l.rest
