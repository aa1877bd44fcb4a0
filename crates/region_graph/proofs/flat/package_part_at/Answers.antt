use mathlib.Core.Path.{ap}
use Rattle.std.specs.Prelude.{Some}
use Rattle.region_graph.specs.Model.{Part, entry_before, LegalEntry}
use Rattle.region_graph.specs.Flat.{entry_code, map_part, FlatPart}
use Rattle.region_graph.specs.Decoded.{Decoded}
use Rattle.region_graph.proofs.FlatLaws.{part_listed}
use Rattle.region_graph.proofs.flat.package_part_at.Goals as goal

pub returns-then-row-at-eq-EVERYTHING : goal.returns-then-row-at-eq-EVERYTHING
returns-then-row-at-eq-EVERYTHING c = Decoded.found Part.everything tt c.if-row-at-eq-EVERYTHING.true (ap Some c.everything.ensures)

pub returns : goal.returns
returns c =
    part_listed entry_before LegalEntry (λ p. FlatPart c.args.row.now c.args.at (map_part entry_code p)) c.if-row-at-eq-EVERYTHING.false
    c.entries_at.ensures
