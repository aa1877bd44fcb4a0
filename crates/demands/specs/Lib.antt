-- What the buyer's demands say of the calls, in the order in which docs/DEMANDS.md has them.
pub mod Claim
pub mod Net
pub mod Interface
pub mod Demands
-- the interfaces of which they are shown: the calls by value, and those on a lent record
pub mod ByValue
pub mod Lent
-- what a host reads of a lent record
pub mod Contents
-- request C-11: what lookups of names say
pub mod Names
-- request C-12: two graphs that agree on a set of regions
pub mod Isolation
-- request C-16: conversions of archives
pub mod RoundTrips
-- document 01's worked cases, and those of C-13 and C-14
pub mod JointTable
