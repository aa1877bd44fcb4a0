-- What a reader must believe of the region graph, in document 01's order: the public promises and the theorems cite it.
pub mod Size
pub mod Refusals
pub mod Lists
pub mod Sets
pub mod Model
pub mod Steps
pub mod Calls
pub mod Items
pub mod Record
pub mod Handed
pub mod Promise
pub mod Flat
-- What only private functions cite.
pub mod Places
pub mod Decoded
