-- What a reader must believe of routes and hooks, in the papers' order: the public promises and the theorems cite it.
pub mod Route
pub mod Chosen
pub mod Hooks
pub mod Resolve
-- What only private functions cite.
pub mod Search
pub mod Tables
pub mod Chains
