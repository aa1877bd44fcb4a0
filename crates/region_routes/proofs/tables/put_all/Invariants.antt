use Rattle.std.proofs.Common.{◌≡◌, ◌+◌, ◌≤◌, ◌++◌, take}
use Rattle.region_routes.specs.Tables.{most_entries}
use Rattle.region_routes.proofs.tables.put_all.Given as goal

-- the items so far are put, and there is room for those that are left
abbrev pub invariant-loop-item : goal.invariant-loop-item
invariant-loop-item g l =
    (goal.iterator-loop-item g).can_next l.item-iterator × (goal.iterator-loop-item g).is_finite l.item-iterator
    × (l.put + (goal.iterator-loop-item g).remaining l.item-iterator ≤ most_entries) × (take l.put l.places ≡ take l.count l.initial.places ++ l.yielded)
