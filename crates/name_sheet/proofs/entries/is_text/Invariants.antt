use Rattle.std.proofs.Common.{take}
use Rattle.name_sheet.specs.Reading.{TextRead}
use Rattle.name_sheet.proofs.entries.is_text.Given as goal

abbrev pub invariant-loop-byte : goal.invariant-loop-byte
invariant-loop-byte l = TextRead (take l.byte-index l.text) l.printable
