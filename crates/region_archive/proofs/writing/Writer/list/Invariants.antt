use mathlib.Core.Path.{◌≡◌}
use lib.ListN.{take}
use Rattle.region_graph.specs.Lists.{concat_map}
use Rattle.text_lines.specs.Written.{WrittenAt}
use Rattle.region_archive.specs.Forms.{element_bytes}
use Rattle.region_archive.specs.RecordFields.{codes_of}
use Rattle.region_archive.proofs.writing.Writer.list.Given as goal

abbrev pub invariant-loop-code : goal.invariant-loop-code
invariant-loop-code l =
    WrittenAt l.initial.self.buffer.now l.self.buffer.now l.initial.self.at (concat_map (element_bytes l.form) (take l.code-index (codes_of l.list))) l.self.at
    × (l.self.buffer.ghost_name ≡ l.initial.self.buffer.ghost_name)
