use Rattle.std.proofs.Common.{arith, rules, refl, not}
use Rattle.std.proofs.lemmas.Fn.{always_returns_same}
use Rattle.region_graph.specs.Model.{connection_before}
use Rattle.region_graph.specs.Record.{connection_in}
use Rattle.region_graph.specs.declared.connections.StoredConnection.{StoredConnection}
use Rattle.region_graph.proofs.Ascending.{strict_connections}
use Rattle.region_graph.proofs.Arrays.{filled_room, filled_free}
use Rattle.region_graph.proofs.Storing.{connections_filled, filled_connections}
use Rattle.region_graph.proofs.PlaceEdits.{inserted}
use Rattle.region_graph.proofs.connections.Connections.insert.Goals as goal

pub insert-requires-clause-in_bounds : goal.insert-requires-clause-in_bounds
insert-requires-clause-in_bounds c = filled_free (connections_filled c.args.self.now c.requires.connections_stored) c.requires.self_value.1

pub overflow_add-self : goal.overflow_add-self
overflow_add-self c = omega (arith, filled_room (connections_filled c.args.self.now c.requires.connections_stored) c.requires.self_value.1)

pub returns : goal.returns
returns c =
    let h = connections_filled c.args.self.now c.requires.connections_stored in
    let x = connection_in c.args.connection.now in
    let q = λ (y : StoredConnection). not (connection_before x (connection_in y)) in
    filled_connections (inserted h q connection_before x (λ y. refl) strict_connections c.requires.self_value.0 (filled_room h c.requires.self_value.1)
    (rw c.requires.connection_stored.stored at (c.insert.ensures q (always_returns_same _ _ _ (λ a r f k. search rules)))))
