use mathlib.Core.Path.{◌≡◌}
use Prim.Native.Nat.{◌≤◌}
use lib.ListN.{length, drop}
use Rattle.region_graph.specs.Lists.{exists}
use Rattle.region_graph.specs.Items.{is_package}
use Rattle.region_graph.specs.Handed.{package_list}
use Rattle.region_graph.proofs.packages.PackageList.has.Given as goal

abbrev pub invariant-loop-i : goal.invariant-loop-i
invariant-loop-i l =
    ((l.i-end ≤ length l.self.numbers.now) × (l.i-end ≤ length l.self.versions.now))
    × (let ps = package_list l.self in let p = is_package l.number l.version in exists p ps ≡ exists p (drop l.i ps))
