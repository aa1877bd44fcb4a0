use mathlib.Core.Path.{ap, ◌∙◌}
use Rattle.region_listing.specs.Listing.{store_text}
use Rattle.region_listing.proofs.ListingLaws.{text_stored, refused_text, accepted_text}
use Rattle.region_listing.proofs.listing.list_archive.Goals as goal

pub returns-in-Ok : goal.returns-in-Ok
returns-in-Ok c =
    let read = rw c.in-Ok.is at c.read-archive.ensures in
    λ f. text_stored c.blank-text.ensures c.put_listing-length.ensures
    ∙ ap store_text (accepted_text f (read.says f).number (read.says f).next)

pub returns-in-Err : goal.returns-in-Err
returns-in-Err c =
    let read = rw c.in-Err.is at c.read-archive.ensures in
    λ f. text_stored c.blank-text.ensures c.put_refusal-length.ensures ∙ ap store_text (refused_text f c.in-Err.refusal (read f).0)
