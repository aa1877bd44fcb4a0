use mathlib.Core.Path.{sym, ap, ◌∙◌}
use Prim.Native.Nat.{ℕ, ◌*◌, ◌≤◌}
use native.Mathlib.Nat.{mul-le-mul}
use native.Mathlib.Omega.{arith}
use lib.ListN.{length}
use Rattle.region_graph.specs.Model.{Part}
use Rattle.region_archive.specs.Image.{part_bytes}
use Rattle.region_archive.specs.Forms.{element_bytes}
use Rattle.region_archive.proofs.Fits.{part_list, list_size, part_all, part_listed}
use Rattle.region_archive.proofs.writing.part_size.Goals as goal

pub returns-then-part-eq-EVERYTHING : goal.returns-then-part-eq-EVERYTHING
returns-then-part-eq-EVERYTHING c =
    let a = c.args in
    let p = a.part.now in
    (ap (λ (q : Part ℕ). length (part_bytes (element_bytes a.form) q)) (sym (part_all p.count p.items c.if-part-eq-EVERYTHING.true)), omega arith)

small : (n w : ℕ) → n ≤ 16 → w ≤ 8 → n * w ≤ 128
small n w h k = mul-le-mul h k

pub returns-else-part-eq-EVERYTHING : goal.returns-else-part-eq-EVERYTHING
returns-else-part-eq-EVERYTHING c =
    let a = c.args in
    let p = a.part.now in
    let listed = c.if-part-eq-EVERYTHING.false in (
      sym (ap (λ (q : Part ℕ). length (part_bytes (element_bytes a.form) q)) (part_listed p.count p.items listed)
          ∙ list_size a.form p (part_list c.requires.1 listed)),
      omega (arith, small p.count a.form.width (c.requires.1.count listed) c.requires.0.wide),
    )

pub overflow_mul-result : goal.overflow_mul-result
overflow_mul-result c =
    omega (arith, small c.args.part.now.count c.args.form.width (c.requires.1.count c.if-part-eq-EVERYTHING.false) c.requires.0.wide)

pub overflow_add-result : goal.overflow_add-result
overflow_add-result c =
    omega (arith, small c.args.part.now.count c.args.form.width (c.requires.1.count c.if-part-eq-EVERYTHING.false) c.requires.0.wide)
