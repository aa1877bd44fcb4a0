use mathlib.Core.Path.{sym, subst, ◌∙◌}
use mathlib.Core.List.{List}
use Prim.Native.Nat.{ℕ, ◌+◌, ◌≤◌}
use native.Mathlib.Omega.{arith}
use mathlib.Core.Path.{refl}
use lib.ListN.{length}
use Rattle.text_lines.proofs.Writes.{wrote_is}
use Rattle.big_endian.specs.Bytes.{sized}
use Rattle.region_archive.specs.RecordFields.{fields_bytes}
use Rattle.region_archive.proofs.Records.{item_record}
use Rattle.region_archive.proofs.Writes.{each_room, each_next, each_all}
use Rattle.region_archive.proofs.writing.Writer.records.Goals as goal

pub record-requires-clause-values_in_bounds : goal.record-requires-clause-values_in_bounds
record-requires-clause-values_in_bounds g c =
    let rs = c.args.records.now in
    let s = g.R.Record.section c.args.version in
    let same = item_record g.R.Record.fields rs _ c.section-section.ensures c.record-item.is (c.values.ensures c.args.version) in
    let f = sized 2 (λ r. fields_bytes s (g.R.Record.fields r)) in
    subst (λ (b : List ℕ). c.loop-record.self.at + length b ≤ length c.loop-record.self.buffer.now) (sym same)
    (each_room f rs refl (omega (arith, c.requires.few)) c.number.ensures.written c.loop-record.invariant.0 c.loop-record-test.true _
    c.requires.records_in_bounds)

pub loop-record-preserved : goal.loop-record-preserved
loop-record-preserved g c =
    let rs = c.args.records.now in
    let s = g.R.Record.section c.args.version in
    let same = item_record g.R.Record.fields rs _ c.section-section.ensures c.record-item.is (c.values.ensures c.args.version) in
    let f = sized 2 (λ r. fields_bytes s (g.R.Record.fields r)) in
    (each_next f rs _ c.loop-record-test.true c.loop-record.invariant.0 (wrote_is same c.record.ensures.written), c.record.ensures.same_buffer ∙ c.loop-record.invariant.1)

pub returns-clause-written : goal.returns-clause-written
returns-clause-written g c =
    let rs = c.args.records.now in
    let s = g.R.Record.section c.args.version in
    let f = sized 2 (λ r. fields_bytes s (g.R.Record.fields r)) in
    each_all f rs refl (omega (arith, c.requires.few)) c.number.ensures.written c.loop-record.invariant.0 c.loop-record-test.false
