use Rattle.std.proofs.Common.{◌≡◌, ◌+◌, ◌-◌, arith, rules}
use Rattle.region_routes.proofs.Walking.{walk_start, leading, walk_next, walk_end}
use Rattle.region_routes.proofs.routes.walk.Goals as goal

pub loop-passed-init : goal.loop-passed-init
loop-passed-init c = let e : c.args.deep - 0 ≡ c.args.deep = omega arith in rw e (walk_start c.requires.walkable c.args.out.now (search rules))

pub next_to-here-requires : goal.next_to-here-requires
next_to-here-requires c = leading c.requires.walkable c.loop-passed.invariant (omega arith)

pub loop-passed-preserved : goal.loop-passed-preserved
loop-passed-preserved c =
    let e : (let p = c.loop-passed.passed in (c.args.deep - p) - 1 ≡ c.args.deep - (p + 1)) = omega arith in
    rw (← e) (walk_next c.requires.walkable c.loop-passed.invariant (omega arith) c.next_to-here.ensures)

pub returns : goal.returns
returns c = walk_end c.args.out.now (omega arith) c.requires.walkable c.loop-passed.invariant
