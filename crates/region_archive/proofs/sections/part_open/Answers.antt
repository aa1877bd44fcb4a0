use Rattle.region_archive.proofs.sections.part_open.Goals as goal

pub returns-in-Connections : goal.returns-in-Connections
returns-in-Connections c = rw c.in-Connections.is
