use mathlib.Core.Path.{◌≡◌}
use Prim.Native.Nat.{◌-◌, ◌≤◌}
use native.Mathlib.Omega.{arith}
use borrow.Author.Rules.{rules}
use borrow.Rule.Slice.PartMut.{same_len_mid}
use lib.ListN.{length}
use Rattle.region_archive.proofs.FieldReads.{part_place, place_room, part_put}
use Rattle.region_archive.proofs.sections.RecordRules.field_at.Goals as goal

pub returns-in_default : goal.returns-in_default
returns-in_default c =
    let a = c.args in
    let none : a.field ≡ 0 → ⊥ = search rules in
    let one : a.field ≡ 1 → ⊥ = search rules in
    let two : 2 ≤ a.field = omega (arith, none, one) in
    let room = place_room a.self.section c.most_in.ensures a.field two c.requires.1.0 in
    let at = part_place c.most_in.result a.field in
    part_put a.row.now c.most_in.ensures two (omega (arith, room.0, c.requires.1.1)) c.part_at.ensures
    (same_len_mid at (length a.row.now - at) a.row.now c.part_at.new.row c.part_at.ensures.size)
