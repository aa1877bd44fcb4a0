use mathlib.Core.Path.{◌≡◌}
use lib.ListN.{take}
use Rattle.region_graph.specs.Lists.{concat_map}
use Rattle.text_lines.specs.Written.{WrittenAt}
use Rattle.big_endian.specs.Bytes.{sized}
use Rattle.region_archive.specs.RecordFields.{fields_bytes}
use Rattle.region_archive.proofs.writing.Writer.records.Given as goal

abbrev pub invariant-loop-record : goal.invariant-loop-record
invariant-loop-record g l =
    WrittenAt l.initial.self.buffer.now l.self.buffer.now l.initial.self.at
    (concat_map (sized 2 (λ r. fields_bytes (g.R.Record.section l.version) (g.R.Record.fields r))) (take l.record-index l.records)) l.self.at
    × (l.self.buffer.ghost_name ≡ l.initial.self.buffer.ghost_name)
