use Rattle.text_lines.specs.Decimal.{most_digits}
use Rattle.text_lines.proofs.DecimalLaws.{count_is}
use Rattle.text_lines.proofs.decimal.digits.Goals as goal

pub returns : goal.returns
returns c =
    let e = c.ilog10.ensures in
    let f = c.max.ensures in
    count_is most_digits c.ilog10.result c.args.number e.bound (rw (← f) e.power_le) (rw (← f) e.next_power_gt)
