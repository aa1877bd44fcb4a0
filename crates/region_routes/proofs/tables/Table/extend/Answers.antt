use Rattle.region_routes.proofs.tables.Table.extend.Goals as goal

pub returns-clause-runs : goal.returns-clause-runs
returns-clause-runs g c = rw c.self.view_is at c.put_all-self-inside.ensures.runs
