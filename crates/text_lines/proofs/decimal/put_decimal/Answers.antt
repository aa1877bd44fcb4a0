use Rattle.text_lines.specs.Decimal.{decimal}
use Rattle.text_lines.proofs.Writes.{wrote_is}
use Rattle.text_lines.proofs.Outcomes.{has_place, put_none, wrote_put}
use Rattle.text_lines.proofs.DecimalLaws.{decimal_is, decimal_size}
use Rattle.text_lines.proofs.decimal.put_decimal.Goals as goal

pub returns-then-not-has_room : goal.returns-then-not-has_room
returns-then-not-has_room c =
    let s = c.args in
    put_none s.buffer.now s.at (decimal s.number) (decimal_size s.number c.digits-width.ensures)
    c.has_room.ensures c.if-not-has_room.true

pub put_digits-requires : goal.put_digits-requires
put_digits-requires c = has_place _ _ c.has_room.ensures c.if-not-has_room.false

pub returns : goal.returns
returns c = let d = c in
    wrote_put (wrote_is (decimal_is d.args.number d.digits-width.ensures) c.put_digits.ensures)
