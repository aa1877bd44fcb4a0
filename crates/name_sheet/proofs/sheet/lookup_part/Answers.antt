use native.Mathlib.Omega.{arith}
use Rattle.name_sheet.proofs.Meaning.{located_inside}
use Rattle.name_sheet.proofs.sheet.lookup_part.Goals as goal

pub slice_bounds-result-count : goal.slice_bounds-result-count
slice_bounds-result-count c = omega (arith, located_inside _ _ _ _ _ c.in-Ok.is c.locate.ensures)

pub slice_bounds-result-start : goal.slice_bounds-result-start
slice_bounds-result-start c = omega (arith, located_inside _ _ _ _ _ c.in-Ok.is c.locate.ensures)

pub slice_bounds-result-end : goal.slice_bounds-result-end
slice_bounds-result-end c = omega (arith, located_inside _ _ _ _ _ c.in-Ok.is c.locate.ensures)
