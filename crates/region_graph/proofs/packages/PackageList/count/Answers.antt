use native.Mathlib.Omega.{arith}
use Rattle.region_graph.proofs.Columns.{packages_length}
use Rattle.region_graph.proofs.packages.PackageList.count.Goals as goal

pub returns : goal.returns
returns c = omega (arith, packages_length c.args.self.numbers.now c.args.self.versions.now)
