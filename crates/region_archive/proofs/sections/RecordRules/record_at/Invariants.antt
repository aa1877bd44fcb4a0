use mathlib.Core.Path.{◌≡◌}
use lib.ListN.{length}
use Rattle.region_archive.specs.RecordFields.{row_width}
use Rattle.region_archive.proofs.RecordReads.{from_bytes, FieldsRead}
use Rattle.region_archive.proofs.sections.RecordRules.record_at.Given as goal

abbrev pub invariant-loop-field : goal.invariant-loop-field
invariant-loop-field l =
    (length l.row ≡ row_width l.self.section)
    × FieldsRead (from_bytes l.self.section l.self.regions l.bytes) l.self.least l.stop l.initial.to l.field l.row l.to
