-- Laws by subject, each over what stands above it.
pub mod Claims
pub mod NetLaws
pub mod Exporters
pub mod Inverse
pub mod Meets
pub mod Theorems
pub mod Contents
pub mod NamesFound
pub mod Converted
pub mod Restricted
pub mod Isolation
pub mod Rows
pub mod GraphG
pub mod Files
pub mod Neighbours
