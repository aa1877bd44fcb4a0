use Rattle.std.proofs.Common.{◌≡◌, false, refl, sym, ◌∙◌}
use borrow.Author.Tests.{lt-ltb}
use Rattle.region_graph.specs.Size.{regions}
use Rattle.region_graph.specs.Sets.{has}
use Rattle.region_graph.proofs.Bits.{bit_zero}
use Rattle.region_routes.specs.Chosen.{sees}
use Rattle.region_routes.specs.Hooks.{item}
use Rattle.region_routes.proofs.Keeping.{has_by}
use Rattle.region_routes.proofs.hooks.fn.keep_many.keep_where.Goals as goal

pub returns-then-seeing-ne0 : goal.returns-then-seeing-ne0
returns-then-seeing-ne0 c =
    λ m k t. sym (has_by (sees m (item k c.args.number 0)) c.captures.region (c.regions_seeing-seeing.ensures m k t) c.requires c.has.ensures refl)

-- the empty set has no region
pub returns-else-seeing-ne0 : goal.returns-else-seeing-ne0
returns-else-seeing-ne0 c =
    let r = c.captures.region in
    let none : has 0 r ≡ false = rw (lt-ltb r regions c.requires, bit_zero r) refl in
    λ m k t.
    rw c.if-seeing-ne0.false
    (sym (has_by (sees m (item k c.args.number 0)) r (sym c.if-seeing-ne0.false ∙ c.regions_seeing-seeing.ensures m k t) c.requires (sym none) refl))
