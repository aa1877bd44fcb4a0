use mathlib.Core.Path.{ap, ◌∙◌}
use native.Mathlib.Omega.{arith}
use lib.ListN.{length}
use lib.Seq.{take_all}
use Rattle.region_graph.specs.Lists.{concat_map}
use Rattle.region_graph.specs.Record.{meaning, store_bundle}
use Rattle.region_graph.proofs.Views.{stored_length}
use Rattle.text_lines.specs.Written.{WrittenAt}
use Rattle.text_lines.proofs.Writes.{wrote_none, wrote_then, wrote_is, wrote_length}
use Rattle.text_lines.proofs.Outcomes.{put_wrote}
use Rattle.region_listing.specs.Listing.{listing_text, header}
use Rattle.region_listing.proofs.ListingLaws.{row, lining_region, lining_room, lining_more, rows_are, header_length, lines_few}
use Rattle.region_listing.proofs.listing.put_listing.Goals as goal

-- the header is written, and the rows of the counts are the graph's lines
pub loop-b-init : goal.loop-b-init
unfolding header
loop-b-init c =
    let v = c.requires.valid in
    let fits = c.requires.longest_text_in_bounds in
    let m = meaning c.args.graph.now in
    let begun : WrittenAt c.args.buffer.now c.put_bytes-at.new.buffer 0 header c.put_bytes-at.result =
    put_wrote c.put_bytes-at.ensures (omega (arith, fits)) in
    let rows = rows_are m c.seen-bundles.ensures c.seen-packages.ensures c.seen-services.ensures v.good in
    record {
      room = omega (arith, ap length rows, header_length, lines_few m v.good, fits, begun.ends, wrote_length begun);
      wrote = wrote_none c.put_bytes-at.new.buffer c.put_bytes-at.result (omega (arith, begun.room, wrote_length begun));
    }

pub bounds-bundles-r : goal.bounds-bundles-r
bounds-bundles-r c = lining_region c.requires.valid c.bundles-b-items.ensures (omega arith) _

pub bounds-packages-r : goal.bounds-packages-r
bounds-packages-r c = lining_region c.requires.valid c.bundles-b-items.ensures (omega arith) _

pub bounds-services-r : goal.bounds-services-r
bounds-services-r c = lining_region c.requires.valid c.bundles-b-items.ensures (omega arith) _

pub put_row-at-requires : goal.put_row-at-requires
put_row-at-requires c = lining_room c.requires.valid c.bundles-b-items.ensures (omega arith) _ c.loop-b.invariant

pub loop-b-preserved : goal.loop-b-preserved
loop-b-preserved c = lining_more c.requires.valid c.bundles-b-items.ensures (omega arith) _ c.loop-b.invariant c.put_row-at.ensures

pub returns : goal.returns
unfolding header listing_text
returns c =
    let v = c.requires.valid in
    let m = meaning c.args.graph.now in
    let begun : WrittenAt c.args.buffer.now c.put_bytes-at.new.buffer 0 header c.put_bytes-at.result =
    put_wrote c.put_bytes-at.ensures (omega (arith, c.requires.longest_text_in_bounds)) in
    let rows = rows_are m c.seen-bundles.ensures c.seen-packages.ensures c.seen-services.ensures v.good in
    let f = row c.seen-bundles.result c.seen-packages.result c.seen-services.result in
    let all = take_all c.loop-b.b-index m.bundles (omega (arith, stored_length store_bundle m.bundles c.bundles-b-items.ensures)) in
    wrote_then begun (wrote_is (ap (concat_map f) all ∙ rows) c.loop-b.invariant.wrote)
