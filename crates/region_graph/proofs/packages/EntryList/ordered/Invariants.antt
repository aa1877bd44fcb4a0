use mathlib.Core.Path.{◌≡◌}
use Prim.Native.Nat.{◌≤◌}
use lib.ListN.{length, drop}
use Rattle.region_graph.specs.Lists.{every}
use Rattle.region_graph.specs.Model.{ordered}
use Rattle.region_graph.specs.Handed.{entry_list}
use Rattle.region_graph.proofs.packages.EntryList.ordered.Given as goal

abbrev pub invariant-loop-i : goal.invariant-loop-i
invariant-loop-i l =
    ((l.i-end ≤ length l.self.numbers.now) × (l.i-end ≤ length l.self.lowest.now) × (l.i-end ≤ length l.self.highest.now))
    × (let es = entry_list l.self in let p = ordered in every p es ≡ every p (drop l.i es))
