use Rattle.region_archive.proofs.FileReads.{over_empty}
use Rattle.region_archive.proofs.reading.read_anew.Goals as goal

pub returns : goal.returns
returns c = over_empty c.empty.ensures c.read_over.ensures
