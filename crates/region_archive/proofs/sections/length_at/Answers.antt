use Rattle.big_endian.proofs.NumberReads.{no_number}
use native.Mathlib.Omega.{arith}
use Rattle.region_archive.proofs.sections.length_at.Goals as goal

pub returns-in_err-size : goal.returns-in_err-size
returns-in_err-size c = rw c.from_residual.ensures (λ n l h k f. no_number (omega arith) c.in_err-size.ensures c.requires n l h f)
