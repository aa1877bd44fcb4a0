use mathlib.Core.Path.{◌≡◌}
use Prim.Native.Nat.{◌≤◌}
use borrow.Author.Rules.{rules}
use Rattle.region_archive.proofs.FieldTests.{high_order, second_bundle, second_connection}
use Rattle.region_archive.proofs.sections.RecordRules.second_good.Goals as goal
use Rattle.region_archive.proofs.sections.RecordRules.second_good.Goals.{then-high-2, else-high-2}

pub returns-then-high : goal.returns-then-high
returns-then-high c =
    let a = c.args in
    high_order c.field_key.ensures c.if-high.true (second_bundle a.self.regions a.first a.second c.in-Bundles.is c.has.ensures)

pub returns-then-first-second : goal.returns-then-first-second
returns-then-first-second c =
    let a = c.args in
    let high : a.self.least ≤ c.field_key.result = search rules in
    let differ : a.first ≡ a.second → ⊥ = search rules in
    high_order c.field_key.ensures high
    (second_connection a.self.regions a.first a.second c.in-Connections.is differ c.has-then-first-second.ensures)
