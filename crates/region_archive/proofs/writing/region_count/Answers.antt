use Rattle.std.proofs.Common.{rules}
use mathlib.Core.Path.{refl, ap, ◌∙◌}
use native.Mathlib.Omega.{arith}
use borrow.Author.Tests.{tests}
use lib.ListN.{length}
use Rattle.std.proofs.lemmas.Iterator.{YieldsList-from_range}
use Rattle.std.proofs.lemmas.Iterator.Consumers.{YieldsList-from_filter, count_from_yields_List}
use Rattle.region_graph.specs.Sets.{has}
use Rattle.region_archive.proofs.Members.{members_filtered, members_few}
use Rattle.region_archive.proofs.writing.region_count.Goals as goal

pub returns : goal.returns
returns c =
    let x = c.args.set in
    let e =
    count_from_yields_List c.filter.result c.count.result c.count.ensures.ran
    (YieldsList-from_filter _ (has x) (YieldsList-from_range 0 64 64 c.filter.ensures.source refl) c.filter.ensures.closure (λ x r q k. search (rules, tests)))
    ∙ ap length (members_filtered x) in
    (e, omega (arith, e, members_few x))
