use mathlib.Core.Path.{sym, ap, ◌∙◌}
use native.Mathlib.Omega.{arith}
use lib.ListN.{length}
use Rattle.region_graph.specs.Record.{meaning}
use Rattle.text_lines.proofs.Writes.{wrote_is, wrote_then, wrote_length}
use Rattle.big_endian.specs.Bytes.{big, counted}
use Rattle.region_archive.specs.Image.{image_in}
use Rattle.region_archive.specs.Promise.{Written, archived}
use Rattle.region_archive.proofs.Images.{body_parts, image_size, image_pieces, wrote_image, no_image}
use Rattle.region_archive.proofs.Members.{set_members}
use Rattle.region_archive.proofs.Placed.{bundles_few, bundles_bytes, bundles_fit, connections_few, connections_bytes, connections_fit}
use Rattle.region_archive.proofs.writing.write_in.Goals as goal

pub returns-then-buffer-size : goal.returns-then-buffer-size
returns-then-buffer-size c =
    let m = meaning c.args.graph.now in
    let v = c.args.version in
    no_image (image_in v m) c.args.buffer.now (omega (arith, image_size v m, c.body_size-size.ensures.0))

pub regions-requires : goal.regions-requires
regions-requires c =
    let g = c.args.graph.now in
    omega (
      arith,
      body_parts c.args.version (meaning g) c.requires.0.good,
      c.body_size-size.ensures.0,
      wrote_length c.number.ensures.written,
      wrote_length c.number-2.ensures.written,
      ap (λ l. length (counted (big 1) l)) (set_members g c.requires.0 c.region_set.ensures),
    )

pub records-requires : goal.records-requires
records-requires c =
    let g = c.args.graph.now in
    let v = c.requires.0 in
    let p = c.bundles.ensures in
    record {
      each_fits = bundles_fit g v p;
      few = bundles_few g v p;
      records_in_bounds =
          omega (
            arith,
            body_parts c.args.version (meaning g) v.good,
            c.body_size-size.ensures.0,
            wrote_length c.number.ensures.written,
            wrote_length c.number-2.ensures.written,
            wrote_length c.regions.ensures.written,
            ap (λ l. length (counted (big 1) l)) (set_members g v c.region_set.ensures),
            ap length (bundles_bytes g v p c.args.version),
          );
    }

pub records-requires-2 : goal.records-requires-2
records-requires-2 c =
    let g = c.args.graph.now in
    let v = c.requires.0 in
    let p = c.connections.ensures in
    record {
      each_fits = connections_fit g v p;
      few = connections_few g v p;
      records_in_bounds =
          omega (
            arith,
            body_parts c.args.version (meaning g) v.good,
            c.body_size-size.ensures.0,
            wrote_length c.number.ensures.written,
            wrote_length c.number-2.ensures.written,
            wrote_length c.regions.ensures.written,
            wrote_length c.records.ensures.written,
            ap (λ l. length (counted (big 1) l)) (set_members g v c.region_set.ensures),
            ap length (bundles_bytes g v c.bundles.ensures c.args.version),
            ap length (connections_bytes g v p c.args.version),
          );
    }

pub returns : goal.returns
returns c =
    let g = c.args.graph.now in
    let v = c.requires.0 in
    let m = meaning g in
    let w = c.args.version in
    let regions = wrote_is (ap (counted (big 1)) (set_members g v c.region_set.ensures)) c.regions.ensures.written in
    let bundles = wrote_is (bundles_bytes g v c.bundles.ensures w) c.records.ensures.written in
    let connections = wrote_is (connections_bytes g v c.connections.ensures w) c.records-2.ensures.written in
    let name =
    c.records-2.ensures.same_buffer ∙ c.records.ensures.same_buffer ∙ c.regions.ensures.same_buffer ∙ c.number-2.ensures.same_buffer
    ∙ c.number.ensures.same_buffer in
    let image =
    wrote_image (image_in w m)
    (wrote_is (image_pieces w m v.good c.requires.1 c.body_size-size.ensures.0)
    (wrote_then c.number.ensures.written (wrote_then c.number-2.ensures.written (wrote_then regions (wrote_then bundles connections))))) in
    ap (λ b. archived (Written.Bytes c.records-2.new.self.at) b) (c.buffer-1.given.1.1 (sym name)) ∙ image
