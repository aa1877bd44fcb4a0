use Rattle.std.proofs.Common.{◌≤◌, arith}
use Rattle.std.proofs.lemmas.List.{length-take}
use Rattle.region_graph.proofs.PlaceEdits.{placing}
use Rattle.region_graph.proofs.places.insert.Goals as goal

pub returns : goal.returns
returns g c = λ p k r.
    let at = c.partition_point-at.result in
    let e = c.partition_point-at.ensures in
    let within : at ≤ c.args.count = omega (arith, e.bound, length-take c.args.count c.args.items.now) in (
      at,
      within,
      e.partitioned p k r,
      rw c.copy_within.ensures.after (placing c.args.items.now at c.args.count c.args.item within c.requires.in_bounds),
    )
