-- What a reader must believe of the archive, in document 01's order: the public promises and the theorems cite it.
pub mod Image
pub mod File
pub mod Promise
-- What only private functions cite.
pub mod Bounds
pub mod Forms
pub mod RecordFields
pub mod Sections
