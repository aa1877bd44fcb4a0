use mathlib.Core.Path.{◌≡◌}
use Prim.Native.Nat.{◌+◌, ◌*◌, ◌≤◌}
use lib.ListN.{length, take}
use Rattle.region_graph.specs.Lists.{concat_map}
use Rattle.big_endian.specs.Bytes.{sized}
use Rattle.region_archive.specs.Bounds.{fields_bound}
use Rattle.region_archive.specs.RecordFields.{fields_bytes}
use Rattle.region_archive.proofs.writing.records_size.Given as goal

abbrev pub invariant-loop-record : goal.invariant-loop-record
invariant-loop-record g l =
    (l.size ≡ 1 + length (concat_map (sized 2 (λ r. fields_bytes (g.R.Record.section l.version) (g.R.Record.fields r))) (take l.record-index l.records)))
    × (l.size ≤ 1 + l.record-index * (2 + fields_bound))
