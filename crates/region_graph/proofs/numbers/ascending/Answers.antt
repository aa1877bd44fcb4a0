use Rattle.std.proofs.Common.{rules, ltb}
use Rattle.std.proofs.lemmas.Fn.{always_returns_same}
use Rattle.region_graph.proofs.Ascending.{ascends_adjacent}
use Rattle.region_graph.proofs.numbers.ascending.Goals as goal

pub returns : goal.returns
returns c = ascends_adjacent ltb c.args.list.now c.is_sorted_by.result
    (c.is_sorted_by.ensures.cases ltb (always_returns_same _ _ _ (λ a r f k. search rules)))
