use mathlib.Core.Path.{◌≡◌}
use Prim.Native.Nat.{◌-◌, ◌≤◌}
use lib.ListN.{length, drop}
use Rattle.region_graph.specs.Lists.{ascends}
use Rattle.region_graph.specs.Model.{package_before}
use Rattle.region_graph.specs.Handed.{package_list}
use Rattle.region_graph.proofs.packages.PackageList.ascends.Given as goal

abbrev pub invariant-loop-i : goal.invariant-loop-i
invariant-loop-i l =
    (l.i-end ≤ length l.self.numbers.now) × (l.i-end ≤ length l.self.versions.now)
    × (let ps = package_list l.self in ascends package_before ps ≡ ascends package_before (drop (l.i - 1) ps))
