use mathlib.Core.Path.{◌≡◌}
use Rattle.region_graph.specs.Lists.{concat_map}
use Rattle.text_lines.specs.Written.{WrittenAt}
use Rattle.big_endian.specs.Bytes.{big}
use Rattle.region_archive.proofs.Members.{met}
use Rattle.region_archive.proofs.writing.Writer.regions.Given as goal

abbrev pub invariant-loop-region : goal.invariant-loop-region
invariant-loop-region l = WrittenAt l.initial.self.buffer.now l.self.buffer.now l.initial.self.at (concat_map (big 1) (met l.set l.region)) l.self.at
    × (l.self.buffer.ghost_name ≡ l.initial.self.buffer.ghost_name)
