use Rattle.region_graph.proofs.FlatLaws.{list_wide, list_found}
use Rattle.region_graph.proofs.flat.list_at.Goals as goal

pub returns-in_err-put_heads : goal.returns-in_err-put_heads
returns-in_err-put_heads c =
    list_wide c.args.row.now c.args.at c.args.places.now c.in_ok-codes.ensures c.in_err-put_heads.ensures c.from_residual-in_err-put_heads.ensures

pub returns : goal.returns
returns c =
    rw c.then_some.ensures
    (list_found c.args.row.now c.args.at c.args.places.now c.in_ok-codes.ensures c.in_ok-put_heads.ensures c.ascending.ensures)
