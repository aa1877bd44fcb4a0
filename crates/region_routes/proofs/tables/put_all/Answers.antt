use mathlib.Core.Path.{◌≡◌}
use mathlib.Core.List.{List, ◌++◌}
use Prim.Native.Nat.{ℕ}
use lib.ListN.{take}
use Rattle.std.specs.Iterator.{Yields}
use Rattle.std.proofs.iter.runs.Consumers.{total_runs}
use Rattle.region_routes.proofs.tables.put_all.Goals as goal

pub returns-clause-runs : goal.returns-clause-runs
returns-clause-runs g c =
    let y : Yields g.I.Iterator.next_gives c.into_iter-item-iterator.result c.loop-item.yielded c.loop-item.item-iterator = c.loop-item.yielded_by in
    let e : c.into_iter-item-iterator.result ≡ c.args.items = c.into_iter-item-iterator.ensures.into_iter_gives in
    total_runs g.I.Iterator.next_gives c.args.items (Unit {0})
    (λ (xs : List ℕ). take c.loop-item.put c.loop-item.places ≡ take c.args.count c.args.places.now ++ xs) (
      c.loop-item.yielded,
      (λ w. (c.next.new.self, (c.loop-item.item-iterator, rw e at y, c.in-None.ensures.steps))),
      c.loop-item.invariant.3,
    ) tt
