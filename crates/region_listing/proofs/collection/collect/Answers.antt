use mathlib.Core.Path.{refl}
use native.Mathlib.Omega.{arith}
use Rattle.region_graph.proofs.Views.{bundle_stored_at}
use Rattle.region_listing.specs.Listing.{held}
use Rattle.region_listing.specs.Counts.{items_in}
use Rattle.region_listing.proofs.Collecting.{collecting_room, collecting_more}
use Rattle.region_listing.proofs.collection.collect.Goals as goal

pub loop-b-init : goal.loop-b-init
unfolding items_in held
loop-b-init c = record { count = omega arith; numbers_size = refl; versions_size = refl; those = refl }

pub provided_by-list-requires : goal.provided_by-list-requires
provided_by-list-requires c = bundle_stored_at c.args.graph.now c.requires c.bundles-b-items.ensures c.loop-b.b-index _ (omega arith)

pub join-requires-clause-list_len_bound : goal.join-requires-clause-list_len_bound
join-requires-clause-list_len_bound c =
    collecting_room c.requires c.bundles-b-items.ensures c.args.kind (omega arith) _ c.loop-b.invariant _ c.provided_by-list.ensures.1

pub loop-b-preserved : goal.loop-b-preserved
loop-b-preserved c =
    collecting_more c.requires c.bundles-b-items.ensures c.args.kind (omega arith) _ c.loop-b.invariant _ c.provided_by-list.ensures.1 c.join.ensures
