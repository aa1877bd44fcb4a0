use mathlib.Core.Path.{◌∙◌}
use Rattle.region_archive.proofs.PlainLaws.{packages_plain}
use Rattle.region_archive.proofs.plain.plain_bundle.Goals as goal

pub returns : goal.returns
returns c = c.all_are.ensures ∙ packages_plain c.args.bundle.now.packages c.requires.packages
