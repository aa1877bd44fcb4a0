-- What a reader must believe of the interface for C: the public promises cite it.
pub mod CNumbers
pub mod CFlags
pub mod CNames
pub mod Reading
pub mod Version
