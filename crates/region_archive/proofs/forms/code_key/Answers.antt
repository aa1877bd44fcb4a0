use mathlib.Core.Path.{refl}
use native.Mathlib.Omega.{arith}
use Rattle.region_archive.proofs.forms.code_key.Goals as goal

pub overflow_cast-result : goal.overflow_cast-result
overflow_cast-result c = omega (arith, c.requires.lowers)

pub overflow_shr-result : goal.overflow_shr-result
overflow_shr-result c = c.requires.lowers

pub returns : goal.returns
returns c = refl
