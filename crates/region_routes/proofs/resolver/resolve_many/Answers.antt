use Rattle.std.proofs.Common.{false, ◌∙◌}
use Rattle.region_graph.specs.Record.{meaning}
use Rattle.region_routes.proofs.TableLaws.{preceding_none}
use Rattle.region_routes.proofs.PackageTables.{owned_long, spanned_long}
use Rattle.region_routes.proofs.resolver.resolve_many.Goals as goal

pub invariant_of-tables : goal.invariant_of-tables
invariant_of-tables c =
    let m = meaning c.args.graph.now in
    record {
      owned_len = owned_long m.bundles (c.entries-3.ensures.0 ∙ c.put_owners.ensures) (c.of.ensures ∙ c.entries-2.ensures.0 ∙ c.put_offers.ensures);
      spans_len =
          spanned_long m.connections (c.entries-4.ensures.0 ∙ c.put_connection_spans.ensures)
          (c.of-passing.ensures ∙ c.entries.ensures.0 ∙ c.put_passages.ensures);
      always_value = c.predecessors-always.ensures (λ r s. false) preceding_none;
    }
