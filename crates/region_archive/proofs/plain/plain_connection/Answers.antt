use native.Mathlib.Omega.{arith}
use Rattle.std.proofs.lemmas.Grind.{common_steps}
use Rattle.region_archive.proofs.PlainLaws.{entries_plain}
use Rattle.region_archive.proofs.plain.plain_connection.Goals as goal

pub returns-then-all_are : goal.returns-then-all_are
returns-then-all_are c =
    let e = entries_plain c.args.connection.now.packages c.requires.packages c.if-count-eq-EVERYTHING.false in
    grind (arith, common_steps, e)

pub returns-else-all_are : goal.returns-else-all_are
returns-else-all_are c =
    let e = entries_plain c.args.connection.now.packages c.requires.packages c.if-count-eq-EVERYTHING.false in
    grind (arith, common_steps, e)
