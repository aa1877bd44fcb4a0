-- What a reader must believe of bytes: numbers in big-endian order, counts and lengths in front, and what stands at a place.
pub mod Bytes
-- `Parsed`; the rest is for the private functions of the crates above
pub mod Parsing
pub mod Numbers
