-- What a reader must believe of the name sheet, in the order of request C-11: the public promises and the theorems cite it.
pub mod Sheet
pub mod File
pub mod Promise
-- What only private functions cite.
pub mod Reading
