use mathlib.Core.Path.{◌≡◌, refl, sym, ap, ◌∙◌}
use Prim.Native.Nat.{ℕ}
use Rattle.std.proofs.Common.{rules, Err}
use Rattle.region_graph.specs.Refusals.{not_refused}
use Rattle.region_graph.specs.Lists.{insert_by}
use Rattle.region_graph.specs.Model.{Model, Connection, connection_before}
use Rattle.region_graph.specs.Calls.{Call, first_no, number, accepted, end_questions, connection_questions}
use Rattle.region_graph.specs.Record.{meaning, store_connection, store_connections, connections_of, connection_in}
use Rattle.region_graph.specs.Places.{ShortConnection}
use Rattle.region_graph.specs.Handed.{handed_connection}
use Rattle.region_graph.specs.declared.connections.StoredConnection.{StoredConnection}
use Rattle.region_graph.proofs.Legal.{first_step, second_step, connectable, part_short}
use Rattle.region_graph.proofs.Storing.{stored_as, connection_back, regions_stored, bundles_stored, connections_stored, stored_graph}
use Rattle.region_graph.proofs.Storing.{numbers_words, part_words, package_part_words, refusal_numbered, refused, accepts}
use Rattle.region_graph.proofs.Graph.connect.Goals as goal

-- the number of the two steps is the call's
module _ (m : Model) (x : Connection) {j : ℕ} (e : j ≡ first_no (end_questions m.regions x.source x.target)) where
  asked_on : j ≡ not_refused → {k : ℕ} → k ≡ first_no (connection_questions m.connections x) → k ≡ number m (Call.connect x)
  asked_on = second_step (end_questions m.regions x.source x.target) (connection_questions m.connections x) (refl, (refl, (refl, tt))) e

  asked_out : (j ≡ not_refused → ⊥) → j ≡ number m (Call.connect x)
  asked_out = first_step (end_questions m.regions x.source x.target) (connection_questions m.connections x) (refl, (refl, (refl, tt))) e

-- a connect that was not refused has short lists
short : (m : Model) (x : Connection) → not_refused ≡ number m (Call.connect x) → ShortConnection x
short m x n =
    let o = connectable m x (sym n) in
    record {
      bundles = o.bundles_few;
      packages = part_short x.filter.packages o.packages_within;
      services = part_short x.filter.services o.services_within;
    }

pub returns-in_err-ask_ends : goal.returns-in_err-ask_ends
unfolding meaning
returns-in_err-ask_ends c =
    let e : c.from_residual.result ≡ Err c.in_err-ask_ends.field-0.0 = search rules in
    refused c.args.self.now (Call.connect (handed_connection c.args.source c.args.target c.args.filter)) c.requires c.in_err-ask_ends.field-0.0
    (asked_out (meaning c.args.self.now) (handed_connection c.args.source c.args.target c.args.filter) c.in_err-ask_ends.ensures
    (refusal_numbered c.in_err-ask_ends.field-0.0)) e

pub returns-in_err-ask_connection : goal.returns-in_err-ask_connection
unfolding meaning
returns-in_err-ask_connection c =
    let e : c.from_residual-in_err-ask_connection.result ≡ Err c.in_err-ask_connection.field-0.0 = search rules in
    refused c.args.self.now (Call.connect (handed_connection c.args.source c.args.target c.args.filter)) c.requires c.in_err-ask_connection.field-0.0
    (asked_on (meaning c.args.self.now) (handed_connection c.args.source c.args.target c.args.filter) c.in_ok-ask_ends.ensures refl
    c.in_err-ask_connection.ensures) e

pub insert-requires : goal.insert-requires
unfolding meaning
insert-requires c =
    let g = c.args.self.now in
    let x = handed_connection c.args.source c.args.target c.args.filter in
    let n = asked_on (meaning g) x c.in_ok-ask_ends.ensures refl c.in_ok-ask_connection.ensures in
    record {
      connections_stored = connections_stored g c.requires;
      connection_stored =
          stored_as store_connection connection_in ShortConnection connection_back x c.new-connection.ensures (short (meaning g) x n);
      self_value = (c.requires.good.connections_legal.ascend, (connectable (meaning g) x (sym n)).room);
    }

pub returns : goal.returns
unfolding meaning
returns c =
    let g = c.args.self.now in
    let x = handed_connection c.args.source c.args.target c.args.filter in
    let n = asked_on (meaning g) x c.in_ok-ask_ends.ensures refl c.in_ok-ask_connection.ensures in
    let t = c.new-connection.type_inv in
    accepts g (Call.connect x) c.requires (
      numbers_words x.filter.bundles (ap (λ (z : StoredConnection). z.bundles) c.new-connection.ensures) (λ i. search rules),
      package_part_words x.filter.packages (ap (λ (z : StoredConnection). z.packages) c.new-connection.ensures)
          (λ i. search rules) (λ i. search (rules, t)) (λ i. search (rules, t)),
      part_words x.filter.services (ap (λ (z : StoredConnection). z.services) c.new-connection.ensures) (λ i. search rules),
    )
    n
    (stored_graph (accepted (meaning g) (Call.connect x)) (regions_stored g c.requires) (bundles_stored g c.requires).stored
    (c.insert.ensures
    ∙ ap (λ (t : Connection). store_connections (insert_by connection_before t (connections_of g.connections)))
    (ap connection_in c.new-connection.ensures ∙ connection_back x (short (meaning g) x n))))
