-- What a reader must believe of the listing: the public promise cites it.
pub mod Listing
-- What only private functions cite.
pub mod Counts
