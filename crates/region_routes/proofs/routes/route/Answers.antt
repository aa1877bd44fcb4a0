use mathlib.Core.List.{List}
use mathlib.Core.Option.{Option}
use Rattle.std.proofs.Common.{◌≡◌, Some, ap, rules}
use Rattle.region_graph.specs.Promise.{place_of}
use Rattle.region_graph.specs.Record.{meaning}
use Rattle.region_routes.specs.Hooks.{item, shown}
use Rattle.region_routes.proofs.Judging.{region_inside, unreached, walkable, walked_chosen}
use Rattle.region_routes.proofs.Answering.{route_answers}
use Rattle.region_routes.proofs.routes.route.Goals as goal

pub returns-in_default : goal.returns-in_default
returns-in_default c =
    let s = c.args in
    let m = meaning s.graph.now in
    let region = c.in_ok-region.region in
    let place : place_of m.bundles s.location ≡ Some region = search rules in
    route_answers m s.location s.kind s.number s.version s.out.now place c.if-kind-gt2.false c.if-out-lt-REGIONS.false
    (ap (λ (p : Option (List _)). shown p s.out.now)
    (unreached m (item s.kind s.number s.version) c.requires.good c.search_for-search.ensures.1 region (region_inside m c.requires.good s.location place)
    c.in_default.ensures))

pub walk-requires : goal.walk-requires
walk-requires c =
    let s = c.args in
    let m = meaning s.graph.now in
    let region = c.in_ok-region.region in
    let place : place_of m.bundles s.location ≡ Some region = search rules in
    let e = c.search_for-search.ensures in
    record {
      room = c.if-out-lt-REGIONS.false;
      walkable =
          rw e.0
          (walkable m (item s.kind s.number s.version) c.requires.good e.1 region (region_inside m c.requires.good s.location place) c.in-Some.ensures);
    }

pub returns : goal.returns
returns c =
    let s = c.args in
    let m = meaning s.graph.now in
    let region = c.in_ok-region.region in
    let place : place_of m.bundles s.location ≡ Some region = search rules in
    let e = c.search_for-search.ensures in
    route_answers m s.location s.kind s.number s.version s.out.now place c.if-kind-gt2.false c.if-out-lt-REGIONS.false
    (walked_chosen m (item s.kind s.number s.version) c.requires.good e.1 region (region_inside m c.requires.good s.location place)
    (rw e.0 at c.walk.ensures))
