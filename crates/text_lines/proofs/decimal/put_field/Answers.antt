use Prim.Native.Nat.{◌+◌, ◌≤◌}
use native.Mathlib.Omega.{arith}
use lib.ListN.{length}
use Rattle.text_lines.specs.Decimal.{decimal_field, most_digits}
use Rattle.text_lines.proofs.Writes.{wrote_then, wrote_byte, wrote_length, wrote_is}
use Rattle.text_lines.proofs.Outcomes.{has_place, put_none, wrote_put}
use Rattle.text_lines.proofs.DecimalLaws.{count_most, decimal_is, field_size}
use Rattle.text_lines.proofs.decimal.put_field.Goals as goal

pub overflow_add-width : goal.overflow_add-width
overflow_add-width c = omega (arith, c.digits-width.ensures, count_most most_digits c.args.number)

pub returns-then-not-has_room : goal.returns-then-not-has_room
returns-then-not-has_room c =
    let s = c.args in
    put_none s.buffer.now s.at (decimal_field s.number s.end) (field_size s.number s.end c.digits-width.ensures)
    c.has_room.ensures c.if-not-has_room.true

pub put_digits-requires : goal.put_digits-requires
put_digits-requires c =
    let room : (let s = c.args in s.at + (c.digits-width.result + 1) ≤ length s.buffer.now) =
    has_place _ _ c.has_room.ensures c.if-not-has_room.false in
    omega (arith, room)

pub bounds-buffer-at : goal.bounds-buffer-at
bounds-buffer-at c =
    let room : (let s = c.args in s.at + (c.digits-width.result + 1) ≤ length s.buffer.now) =
    has_place _ _ c.has_room.ensures c.if-not-has_room.false in
    omega (arith, room, wrote_length c.put_digits.ensures)

pub returns : goal.returns
returns c =
    let w = c.put_digits in
    let a = c in
    let s = a.args in
    wrote_put
    (wrote_then (wrote_is (decimal_is s.number a.digits-width.ensures) w.ensures)
    (wrote_byte w.new.buffer (s.at + a.digits-width.result) s.end (bounds-buffer-at c)))
