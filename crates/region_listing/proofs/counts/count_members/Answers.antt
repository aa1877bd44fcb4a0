use native.Mathlib.Omega.{arith}
use Rattle.region_routes.proofs.SearchLoops.{above_none, Taken, taken}
use Rattle.region_listing.proofs.Counting.{adding_room, adding_more, adding_end}
use Rattle.region_listing.proofs.counts.count_members.Goals as goal
use Rattle.region_listing.proofs.counts.count_members.Goals.{After-without_lowest-left}

-- a member is taken from those that are left
turn : (c : After-without_lowest-left) → Taken c.loop-left.left c.lowest-n.result c.without_lowest-left.result
turn c =
    let a = c.loop-left.invariant.1 in
    taken a.word (above_none _ c.loop-left-test.true) c.lowest-n.ensures c.without_lowest-left.ensures

pub overflow_add-counts : goal.overflow_add-counts
overflow_add-counts c =
    omega (arith, adding_room c.loop-left.invariant.0 c.loop-left.invariant.1 (turn (goal.at.overflow_add-counts c).After-without_lowest-left).low)

pub loop-left-smaller : goal.loop-left-smaller
loop-left-smaller c = (turn (goal.at.loop-left-smaller c).After-without_lowest-left).less

pub loop-left-preserved : goal.loop-left-preserved
loop-left-preserved c = (c.loop-left.invariant.0, adding_more c.loop-left.invariant.1 (turn (goal.at.loop-left-preserved c).After-without_lowest-left))

pub returns : goal.returns
returns c = adding_end c.loop-left-test.false c.loop-left.invariant.1
