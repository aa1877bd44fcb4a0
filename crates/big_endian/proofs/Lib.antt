-- Laws by subject, each over what stands above it.
pub mod NumberReads
pub mod Delimits
pub mod Digits
pub mod Readers
pub mod Rows
pub mod Tested
pub mod SomeOrNone
