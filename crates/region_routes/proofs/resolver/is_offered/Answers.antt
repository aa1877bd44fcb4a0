use Rattle.std.proofs.Common.{refl, sym, ap, ◌∙◌}
use Rattle.region_graph.specs.Record.{meaning}
use Rattle.region_routes.specs.Resolve.{package_of, reaches, offered_at}
use Rattle.region_routes.proofs.Judging.{provider_inside, reached_reaches}
use Rattle.region_routes.proofs.Keeping.{has_by}
use Rattle.region_routes.proofs.resolver.is_offered.Goals as goal

-- a route ends in the exporter's region
pub returns-in-Some : goal.returns-in-Some
returns-in-Some c =
    let a = c.args in
    let m = meaning a.graph.now in
    let r = c.requires in
    let home = c.in-Some.home in
    let wanted = package_of a.candidate in
    let e = rw c.number.ensures at (sym c.provider.ensures ∙ c.in-Some.is) in
    let f = c.search_for-search.result.layers in
    sym (has_by (reaches m wanted home) a.region
    (reached_reaches m wanted r.valid.good home (provider_inside m r.valid.good a.candidate.exporter wanted e)
    {sets = f.sets} {deep = f.deep} (rw c.number.ensures at c.search_for-search.ensures.1)) r.region_lt_regions c.has.ensures refl)
    ∙ ap (offered_at m a.candidate a.region) (sym e)
