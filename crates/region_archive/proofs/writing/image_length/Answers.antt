use native.Mathlib.Omega.{arith}
use Rattle.region_graph.specs.Record.{meaning}
use Rattle.region_archive.specs.Image.{latest}
use Rattle.region_archive.proofs.Images.{image_size}
use Rattle.region_archive.proofs.writing.image_length.Goals as goal

pub returns : goal.returns
returns c = omega (arith, image_size latest (meaning c.args.graph.now), c.body_size.ensures.0)
