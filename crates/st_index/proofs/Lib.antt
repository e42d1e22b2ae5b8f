pub mod Counted
pub mod Changes
pub mod Called
pub mod Placed
pub mod Looked
pub mod Named
