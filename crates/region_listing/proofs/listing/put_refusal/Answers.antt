use native.Mathlib.Omega.{arith}
use Rattle.region_graph.specs.Refusals.{refusal_number}
use Rattle.text_lines.specs.Decimal.{decimal_field, newline}
use Rattle.text_lines.proofs.Outcomes.{put_wrote, puts}
use Rattle.region_listing.specs.Listing.{refusal_text, refused_word}
use Rattle.region_listing.proofs.ListingLaws.{refusal_fits}
use Rattle.region_listing.proofs.listing.put_refusal.Goals as goal

pub returns : goal.returns
unfolding refusal_text refused_word
returns c =
    let n = refusal_number c.args.refusal in
    puts refused_word (decimal_field n newline) c.put_bytes-at.ensures (put_wrote (rw c.number.ensures at c.put_field.ensures))
    (omega (arith, c.requires, refusal_fits n))
