use mathlib.Core.Path.{refl, sym, ◌∙◌}
use native.Mathlib.Omega.{arith}
use Rattle.region_graph.proofs.FlatLoops.{rows_broken, taken_none, taken_more, taken_end, stuck_bad, stuck_low}
use Rattle.region_graph.proofs.flat.put_rows.Goals as goal

pub returns-then-rows-WIDTH-ne0 : goal.returns-then-rows-WIDTH-ne0
returns-then-rows-WIDTH-ne0 g c = rows_broken c.requires c.args.rows.now c.args.places.now (rw c.WIDTH.ensures at c.if-rows-WIDTH-ne0.true) refl

pub loop-row-init : goal.loop-row-init
loop-row-init g c =
    let chunks = c.chunks_exact-row-items.ensures in
    rw (c.into_iter-row-iterator.ensures.into_iter_gives, chunks.rest, chunks.size, c.WIDTH-2.ensures)
    (taken_none c.requires c.args.rows.now c.args.places.now (rw c.WIDTH.ensures at c.if-rows-WIDTH-ne0.false), refl)

pub returns-in_err-element : goal.returns-in_err-element
returns-in_err-element g c =
    let s = c.in-Some.ensures.steps in
    stuck_bad c.requires c.args.rows.now c.args.places.now c.loop-row.invariant.0 c.in-Some.row.now _ s.1.0 (s.1.1 ∙ c.loop-row.invariant.1)
    c.in_err-element.ensures c.from_residual.ensures

pub returns-then-key-least : goal.returns-then-key-least
returns-then-key-least g c =
    let s = c.in-Some.ensures.steps in
    stuck_low c.requires c.args.rows.now c.args.places.now c.loop-row.invariant.0 c.in-Some.row.now _ s.1.0 (s.1.1 ∙ c.loop-row.invariant.1)
    c.in_ok-element.ensures (rw c.key-key.ensures.value at c.if-key-least.true) refl

pub loop-row-preserved : goal.loop-row-preserved
loop-row-preserved g c =
    let s = c.in-Some.ensures.steps in (
      rw c.key-key.ensures.value
          (taken_more c.requires c.args.rows.now c.args.places.now c.loop-row.invariant.0 c.in-Some.row.now _ s.1.0 (s.1.1 ∙ c.loop-row.invariant.1)
          c.in_ok-element.ensures (rw c.key-key.ensures.value at c.if-key-least.false) (λ e. c.if-count-places.false (e ∙ sym c.loop-row.auto.places))),
      s.0 ∙ c.loop-row.invariant.1,
    )

pub returns : goal.returns
returns g c =
    let s = c.in-None.ensures.steps in
    taken_end c.requires c.args.rows.now c.args.places.now c.loop-row.invariant.0 (omega (arith, s.1.0, c.loop-row.invariant.1)) refl
