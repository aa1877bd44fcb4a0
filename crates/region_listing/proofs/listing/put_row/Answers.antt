use mathlib.Core.List.{List, ◌++◌}
use Prim.Native.Nat.{ℕ}
use Rattle.text_lines.specs.Decimal.{decimal_field, space, newline}
use Rattle.text_lines.proofs.Outcomes.{put_wrote, puts}
use Rattle.region_listing.proofs.listing.put_row.Goals as goal

-- the fields of the line from the fourth, the third and the second on
abbrev from_4 : ℕ → ℕ → List ℕ
from_4 packages services = decimal_field packages space ++ decimal_field services newline

abbrev from_3 : ℕ → ℕ → ℕ → List ℕ
from_3 bundles packages services = decimal_field bundles space ++ from_4 packages services

abbrev from_2 : ℕ → ℕ → ℕ → ℕ → List ℕ
from_2 region bundles packages services = decimal_field region space ++ from_3 bundles packages services

pub returns : goal.returns
returns c =
    let a = c.args.row in
    puts (decimal_field a.location space) (from_2 a.region a.bundles a.packages a.services) c.put_field-a.ensures
    (puts (decimal_field a.region space) (from_3 a.bundles a.packages a.services) c.put_field-b.ensures
    (puts (decimal_field a.bundles space) (from_4 a.packages a.services) c.put_field-c.ensures
    (puts (decimal_field a.packages space) (decimal_field a.services newline) c.put_field-d.ensures (put_wrote c.put_field.ensures)))) c.requires
