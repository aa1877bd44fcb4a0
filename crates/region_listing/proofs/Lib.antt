-- Laws by subject, each over what stands above it.
pub mod Collecting
pub mod Counting
pub mod ListingLaws
