use mathlib.Core.Path.{◌≡◌}
use Rattle.text_lines.specs.Written.{WrittenAt}
use Rattle.region_archive.specs.RecordFields.{bytes_to, field_bytes, fields_in}
use Rattle.region_archive.proofs.writing.Writer.record.Given as goal

abbrev pub invariant-loop-field : goal.invariant-loop-field
invariant-loop-field l =
    WrittenAt l.initial.self.buffer.now l.self.buffer.now l.initial.self.at (bytes_to (field_bytes l.section) l.field (fields_in l.values)) l.self.at
    × (l.self.buffer.ghost_name ≡ l.initial.self.buffer.ghost_name)
