use mathlib.Core.Path.{sym, ap, ◌∙◌}
use native.Mathlib.Omega.{arith}
use lib.ListN.{length}
use Rattle.region_graph.specs.Lists.{concat_map}
use Rattle.region_graph.specs.Sets.{members}
use Rattle.region_graph.proofs.Lists.{concat_snoc}
use Rattle.text_lines.proofs.Writes.{wrote_then, wrote_is, wrote_room}
use Rattle.big_endian.specs.Bytes.{big, counted}
use Rattle.region_archive.proofs.Members.{met, met_took, met_left, met_all, met_byte}
use Rattle.region_archive.proofs.Writes.{wrote_counted}
use Rattle.region_archive.proofs.writing.Writer.regions.Goals as goal
use Rattle.region_archive.proofs.writing.Writer.regions.Goals.{then-has, else-has}

pub number-requires-then-has : goal.number-requires-then-has
number-requires-then-has c =
    let byte = met_byte c.args.set c.loop-region.region (omega arith) (sym c.has.ensures ∙ c.if-has.true) in
    wrote_room (length (counted (big 1) (members c.args.set))) 1 c.number.ensures.written c.loop-region.invariant.0 c.requires (omega (arith, byte))

pub loop-region-preserved : goal.loop-region-preserved
loop-region-preserved c =
    let x = c.args.set in
    let i = c.loop-region.region in
    elim c.if-has.branch [
      | then-has w ↦
          let took = met_took x i (omega arith) (sym c.has.ensures ∙ w.if-has.true) in
          rw (w.self-is) (
            wrote_is (sym (ap (concat_map (big 1)) took ∙ concat_snoc (big 1) (met x i) i))
                (wrote_then c.loop-region.invariant.0 w.number-then-has.ensures.written),
            w.number-then-has.ensures.same_buffer ∙ c.loop-region.invariant.1,
          )
      | else-has w ↦
          let left = met_left x i (omega arith) (sym c.has.ensures ∙ w.if-has.false) in
          rw (w.self-is) (wrote_is (sym (ap (concat_map (big 1)) left)) c.loop-region.invariant.0, c.loop-region.invariant.1)
    ]

pub returns-clause-written : goal.returns-clause-written
returns-clause-written c =
    let n = c.region_count.ensures in
    wrote_counted (big 1) (members c.args.set) n.0 (omega (arith, n.1)) (ap (concat_map (big 1)) (met_all c.args.set c.loop-region.region (omega arith)))
    c.number.ensures.written c.loop-region.invariant.0
