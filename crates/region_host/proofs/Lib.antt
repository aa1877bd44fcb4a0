-- Laws by subject, each over what stands above it.
pub mod Refused
pub mod Outcomes
pub mod Nth
pub mod ReadBack
pub mod Given
pub mod ReadWhole
