use mathlib.Core.Path.{◌≡◌}
use Prim.Native.Nat.{◌*◌, ◌≤◌}
use lib.ListN.{length}
use Rattle.region_archive.specs.Bounds.{field_bound}
use Rattle.region_archive.specs.RecordFields.{bytes_to, field_bytes, fields_in}
use Rattle.region_archive.proofs.writing.fields_size.Given as goal

abbrev pub invariant-loop-field : goal.invariant-loop-field
invariant-loop-field l =
    (l.size ≡ length (bytes_to (field_bytes l.section) l.field (fields_in l.values))) × (l.size ≤ l.field * field_bound)
