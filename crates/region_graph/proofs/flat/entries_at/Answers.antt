use mathlib.Core.Path.{refl, sym, ◌∙◌}
use Rattle.region_graph.specs.Size.{most_listed}
use Rattle.region_graph.proofs.Codes.{entry_coded}
use Rattle.region_graph.proofs.FlatLaws.{coded_none, entries_found}
use Rattle.region_graph.proofs.flat.entries_at.Goals as goal

pub returns-in_err-put_heads : goal.returns-in_err-put_heads
returns-in_err-put_heads c =
    coded_none entry_coded c.args.row.now c.args.at most_listed c.in_ok-codes.ensures c.in_err-put_heads.ensures
    c.from_residual-in_err-put_heads.ensures

pub returns-then-not-ascends : goal.returns-then-not-ascends
returns-then-not-ascends c =
    entries_found c.args.row.now c.args.at c.in_ok-codes.ensures c.in_ok-put_heads.ensures c.put_tails.ensures c.put_tails-2.ensures
    (sym c.if-not-ascends.true ∙ c.ascends.ensures) refl

pub returns : goal.returns
returns c =
    rw c.then_some.ensures
    (entries_found c.args.row.now c.args.at c.in_ok-codes.ensures c.in_ok-put_heads.ensures c.put_tails.ensures c.put_tails-2.ensures
    (sym c.if-not-ascends.false ∙ c.ascends.ensures) c.ordered.ensures)
