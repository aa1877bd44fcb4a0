use Rattle.region_graph.proofs.FlatLaws.{word_is, outside, bundle_found}
use Rattle.region_graph.proofs.flat.StoredBundleRow.read.Goals as goal

pub returns-in_err-region : goal.returns-in_err-region
returns-in_err-region c =
    outside c.args.regions _ (λ b. b.region) (λ b g. g.region) (λ b h. h.second) c.in_err-region.ensures c.from_residual-in_err-region.ensures

pub returns : goal.returns
returns c =
    bundle_found c.args.regions c.args.row.now (word_is _ _ c.try_from.ensures c.in_ok-location.ensures.value) c.in_ok-region.ensures
    c.in_ok-packages.ensures c.in_ok-count.ensures
