use Rattle.region_graph.specs.Size.{most_provided}
use Rattle.region_graph.proofs.Codes.{package_coded}
use Rattle.region_graph.proofs.FlatLaws.{coded_none, packages_found}
use Rattle.region_graph.proofs.flat.packages_at.Goals as goal

pub returns-in_err-put_heads : goal.returns-in_err-put_heads
returns-in_err-put_heads c =
    coded_none package_coded c.args.row.now c.args.at most_provided c.in_ok-codes.ensures c.in_err-put_heads.ensures
    c.from_residual-in_err-put_heads.ensures

pub returns : goal.returns
returns c =
    rw c.then_some.ensures
    (packages_found c.args.row.now c.args.at c.in_ok-codes.ensures c.in_ok-put_heads.ensures c.put_tails.ensures c.ascends.ensures)
