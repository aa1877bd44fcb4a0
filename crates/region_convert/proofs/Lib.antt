-- Laws by subject, each over what stands above it.
pub mod Conversions
