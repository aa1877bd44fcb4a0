use mathlib.Core.Path.{ap, ◌∙◌}
use mathlib.Core.List.{List, ◌++◌}
use Prim.Native.Nat.{ℕ}
use native.Mathlib.Omega.{arith}
use borrow.Author.Tests.{ne_eqb}
use lib.ListN.{length-map}
use lib.Seq.{length-take-le}
use Rattle.region_graph.specs.Record.{entries_of}
use Rattle.region_graph.proofs.Arrays.{filled_within}
use Rattle.region_routes.specs.Tables.{version_span}
use Rattle.region_routes.proofs.TableLoops.{span_columns, spans_zipped}
use Rattle.region_routes.proofs.tables.Table.put_spans.Goals as goal

pub shared_ref_as_front-put_pairs : goal.shared_ref_as_front-put_pairs
shared_ref_as_front-put_pairs c =
    let h = span_columns c.args.part.now c.requires.stored c.if-part-eq-EVERYTHING.false in
    omega (arith, h.lows.counted, h.lows.room)

pub put_pairs-requires : goal.put_pairs-requires
put_pairs-requires c =
    let p = c.args.part.now in
    let h = span_columns p c.requires.stored c.if-part-eq-EVERYTHING.false in
    let r = rw (ne_eqb _ _ c.if-part-eq-EVERYTHING.false) at c.requires.room in
    omega (arith, r, length-map (entries_of p) version_span, h.highs.counted, length-take-le p.count p.highest (filled_within h.highs))

pub returns-else-part-eq-EVERYTHING : goal.returns-else-part-eq-EVERYTHING
returns-else-part-eq-EVERYTHING c =
    let h = span_columns c.args.part.now c.requires.stored c.if-part-eq-EVERYTHING.false in
    rw (ne_eqb _ _ c.if-part-eq-EVERYTHING.false)
    (c.put_pairs.ensures ∙ ap (λ (xs : List ℕ). c.args.self.now ++ xs) (spans_zipped h))
