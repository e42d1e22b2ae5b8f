pub mod Orders
pub mod Kept
pub mod Changed
pub mod Set
pub mod Made
pub mod Members
pub mod Turned
