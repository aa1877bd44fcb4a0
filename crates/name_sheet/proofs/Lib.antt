-- Laws by subject, each over what stands above it.
pub mod Texts
pub mod EntryLaws
pub mod OneSheet
pub mod Scanning
pub mod Meaning
