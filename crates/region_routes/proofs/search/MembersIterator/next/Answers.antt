use Rattle.std.proofs.Common.{rules}
use Rattle.region_routes.proofs.SearchLoops.{taken, above_none}
use Rattle.region_routes.proofs.search.MembersIterator.next.Goals as goal

pub returns-clause-goes : goal.returns-clause-goes
returns-clause-goes c =
    let turn = taken {left = c.args.self.now.left} (search rules) (above_none _ c.if-self-eq0.false) c.lowest-member.ensures c.without_lowest-self.ensures in
    record { on = λ f. (tt, tt, turn.less); keeps = tt; rests = λ f. tt }
