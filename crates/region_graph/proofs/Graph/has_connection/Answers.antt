use native.Mathlib.Omega.{arith}
use Rattle.region_graph.specs.Calls.{joins}
use Rattle.region_graph.proofs.Views.{some_here, some_later, some_end}
use Rattle.region_graph.proofs.Graph.has_connection.Goals as goal

pub returns-then-joins : goal.returns-then-joins
returns-then-joins c =
    let a = c.args in
    some_here a.self.now c.requires c.connections-c-items.ensures (joins a.source a.target) (omega arith) _ c.joins.ensures c.loop-c.invariant c.if-joins.true

pub loop-c-preserved : goal.loop-c-preserved
loop-c-preserved c =
    let a = c.args in
    some_later a.self.now c.requires c.connections-c-items.ensures (joins a.source a.target) (omega arith) _ c.joins.ensures c.loop-c.invariant c.if-joins.false

pub returns : goal.returns
returns c =
    let a = c.args in
    some_end a.self.now c.requires c.connections-c-items.ensures (joins a.source a.target) (omega arith) c.loop-c.invariant
