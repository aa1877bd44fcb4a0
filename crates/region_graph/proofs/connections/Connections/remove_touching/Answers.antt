use Rattle.std.proofs.Common.{not, refl, rules}
use Rattle.region_graph.specs.Calls.{touches}
use Rattle.region_graph.specs.Record.{connection_in}
use Rattle.region_graph.specs.declared.connections.StoredConnection.{StoredConnection}
use Rattle.region_graph.proofs.Arrays.{filled_within}
use Rattle.region_graph.proofs.Storing.{connections_filled, filled_connections}
use Rattle.region_graph.proofs.PlaceEdits.{retained}
use Rattle.region_graph.proofs.connections.Connections.remove_touching.Goals as goal

pub retain-self-requires-clause-in_bounds : goal.retain-self-requires-clause-in_bounds
retain-self-requires-clause-in_bounds c = filled_within (connections_filled c.args.self.now c.requires)

pub returns : goal.returns
returns c =
    let q = λ (b : StoredConnection). not (touches c.args.region (connection_in b)) in
    filled_connections (retained (connections_filled c.args.self.now c.requires) q (λ b. not (touches c.args.region b)) (λ b. refl)
    (rw c.no_connection.ensures at (c.retain-self.ensures q (λ b r k. search rules))))
