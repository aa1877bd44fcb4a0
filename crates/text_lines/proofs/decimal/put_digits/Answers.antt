use Rattle.text_lines.proofs.DecimalLaws.{last_next}
use Rattle.text_lines.proofs.decimal.put_digits.Goals as goal

pub loop-left-preserved : goal.loop-left-preserved
loop-left-preserved c = last_next c.loop-left.invariant c.loop-left-test.true
