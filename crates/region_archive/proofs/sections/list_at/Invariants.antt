use lib.ListN.{length}
use Rattle.region_archive.proofs.ListReads.{ListGoing}
use Rattle.region_archive.proofs.sections.list_at.Given as goal

abbrev pub invariant-loop-n : goal.invariant-loop-n
invariant-loop-n l = ListGoing l.form l.bytes l.initial.to l.n-end (length l.initial.row) l.n l.row l.to l.least
