use mathlib.Core.Path.{◌≡◌}
use lib.ListN.{length}
use Rattle.region_archive.proofs.RegionReads.{Regions}
use Rattle.region_archive.proofs.sections.regions_at.Given as goal

abbrev pub invariant-loop-n : goal.invariant-loop-n
invariant-loop-n l = (length l.list ≡ length l.initial.list) × Regions l.bytes l.initial.at l.list l.set l.at l.least l.n
