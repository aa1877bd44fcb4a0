use Rattle.region_archive.proofs.FieldTests.{high_order, first_connection}
use Rattle.region_archive.proofs.sections.RecordRules.first_good.Goals as goal

pub returns-then-high : goal.returns-then-high
returns-then-high c =
    let a = c.args in
    high_order c.field_key.ensures c.if-high.true (first_connection a.self.regions a.first c.in-Connections.is c.has.ensures)
