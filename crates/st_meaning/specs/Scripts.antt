-- Scripts that were worked out by hand, by what they are about.
pub mod Diamonds
pub mod Texts
pub mod Uniques
pub mod References
pub mod Orders
pub mod Aborts
pub mod Variables
pub mod Finds
pub mod Ensures
pub mod Nulls
pub mod Names
pub mod Kinds
pub mod Sets
pub mod Footprints
