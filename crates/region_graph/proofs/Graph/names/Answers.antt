use native.Mathlib.Omega.{arith}
use Rattle.region_graph.specs.Calls.{names}
use Rattle.region_graph.proofs.Views.{connection_stored_at, some_here, some_later, some_end}
use Rattle.region_graph.proofs.Graph.names.Goals as goal

pub names-requires : goal.names-requires
names-requires c = connection_stored_at c.args.self.now c.requires c.connections-c-items.ensures c.loop-c.c-index _ (omega arith)

pub returns-then-names : goal.returns-then-names
returns-then-names c =
    let a = c.args in
    some_here a.self.now c.requires c.connections-c-items.ensures (names a.region a.location) (omega arith) _ c.names.ensures c.loop-c.invariant c.if-names.true

pub loop-c-preserved : goal.loop-c-preserved
loop-c-preserved c =
    let a = c.args in
    some_later a.self.now c.requires c.connections-c-items.ensures (names a.region a.location) (omega arith) _ c.names.ensures c.loop-c.invariant c.if-names.false

pub returns : goal.returns
returns c =
    let a = c.args in
    some_end a.self.now c.requires c.connections-c-items.ensures (names a.region a.location) (omega arith) c.loop-c.invariant
