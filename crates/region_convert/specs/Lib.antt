-- What a reader must believe of the conversions: the public promises cite it.
pub mod Conversion
-- What only private functions cite.
pub mod Between
