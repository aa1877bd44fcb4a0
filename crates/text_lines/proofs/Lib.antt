-- Laws by subject, each over what stands above it.
pub mod Writes
pub mod Outcomes
pub mod DecimalLaws
