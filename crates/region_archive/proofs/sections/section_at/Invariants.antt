use mathlib.Core.Path.{◌≡◌}
use lib.ListN.{length}
use Rattle.region_archive.proofs.RecordReads.{from_bytes}
use Rattle.region_archive.proofs.SectionReads.{Recording}
use Rattle.region_archive.proofs.sections.section_at.Given as goal

abbrev pub invariant-loop-n : goal.invariant-loop-n
invariant-loop-n l =
    (length l.rows ≡ length l.initial.rows) × Recording (from_bytes l.section l.regions l.bytes) l.initial.at l.rows l.at l.least l.n
