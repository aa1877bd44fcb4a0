use Rattle.region_graph.proofs.FlatLaws.{outside, connection_found}
use Rattle.region_graph.proofs.flat.StoredConnectionRow.read.Goals as goal

pub returns-in_err-source : goal.returns-in_err-source
returns-in_err-source c =
    outside c.args.regions _ (λ y. y.source) (λ y g. g.source) (λ y h. h.first) c.in_err-source.ensures c.from_residual.ensures

pub returns-in_err-target : goal.returns-in_err-target
returns-in_err-target c =
    outside c.args.regions _ (λ y. y.target) (λ y g. g.target) (λ y h. h.second) c.in_err-target.ensures
    c.from_residual-in_err-target.ensures

pub returns : goal.returns
returns c =
    rw c.then_some.ensures
    (connection_found c.args.regions c.args.row.now c.in_ok-source.ensures c.in_ok-target.ensures c.in_ok-bundles.ensures
    c.in_ok-packages.ensures c.in_ok-services.ensures)
