use Rattle.std.proofs.Common.{refl, rules}
use Rattle.std.proofs.lemmas.List.Recursion.{and_is}
use Rattle.region_graph.specs.Lists.{every}
use Rattle.region_graph.specs.Record.{connection_in, store_connection, no_connection}
use Rattle.region_graph.specs.declared.connections.StoredConnection.{StoredConnection}
use Rattle.region_archive.specs.Image.{plain_connection}
use Rattle.region_archive.proofs.plain.plain_connections.Goals as goal

pub returns : goal.returns
returns c =
    let plain = λ (x : StoredConnection). plain_connection (connection_in x) in
    and_is (every plain) plain refl (λ _ _. refl) c.args.connections.now (store_connection no_connection) _ (search rules) (search rules)
