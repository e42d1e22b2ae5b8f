pub mod Tallies
pub mod Unlike
pub mod Fresh
pub mod Entities
pub mod Members
pub mod Set
pub mod Deleted
