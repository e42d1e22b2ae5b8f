pub mod Walks
pub mod Changes
pub mod Ways
pub mod Counted
pub mod Laws
