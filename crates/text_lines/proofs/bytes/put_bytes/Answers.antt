use mathlib.Core.Path.{refl}
use Rattle.text_lines.proofs.Outcomes.{has_place, put_none, wrote_put}
use Rattle.text_lines.proofs.Writes.{wrote_copy}
use Rattle.text_lines.proofs.bytes.put_bytes.Goals as goal

pub returns-then-not-has_room : goal.returns-then-not-has_room
returns-then-not-has_room c =
    let s = c.args in
    put_none s.buffer.now s.at s.bytes.now refl c.has_room.ensures c.if-not-has_room.true

pub returns : goal.returns
returns c =
    let s = c.args in
    wrote_put (wrote_copy c.copy_from_slice.ensures.after (has_place _ _ c.has_room.ensures c.if-not-has_room.false))
