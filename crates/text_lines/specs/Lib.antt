-- What a reader must believe of text put into a buffer: the public promises cite it.
pub mod Decimal
pub mod Outcome
-- What only private functions cite.
pub mod Written
