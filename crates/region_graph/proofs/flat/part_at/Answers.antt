use mathlib.Core.Path.{refl}
use lib.Dec.{ltb}
use Rattle.region_graph.specs.Model.{Part, Word}
use Rattle.region_graph.specs.Flat.{FlatPart}
use Rattle.region_graph.specs.Decoded.{Put}
use Rattle.region_graph.proofs.FlatLaws.{part_put}
use Rattle.region_graph.proofs.flat.part_at.Goals as goal

pub returns-then-row-at-eq-EVERYTHING : goal.returns-then-row-at-eq-EVERYTHING
returns-then-row-at-eq-EVERYTHING c = Put.found Part.everything tt c.if-row-at-eq-EVERYTHING.true refl refl

pub returns : goal.returns
returns c =
    part_put ltb Word (FlatPart c.args.row.now c.args.at) c.if-row-at-eq-EVERYTHING.false (rw c.requires.places_len at c.list_at.ensures)
