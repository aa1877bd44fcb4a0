-- The text of a listing stands in its places, so its first bytes, so many as it is long, are there.
use Rattle.std.proofs.Common.{sym, length-take-le}
use Rattle.region_listing.proofs.ListingLaws.{listed_inside}
use Rattle.listing.proofs.main.Goals as goal

pub slice_bounds-bytes-end : goal.slice_bounds-bytes-end
slice_bounds-bytes-end c = listed_inside _ c.list_archive-text.result c.list_archive-text.ensures

pub slice_bounds-write_all-end : goal.slice_bounds-write_all-end
slice_bounds-write_all-end c = sym (length-take-le _ _ (listed_inside _ c.list_archive-text.result c.list_archive-text.ensures))
