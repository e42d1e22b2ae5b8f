pub mod Escapes
pub mod Kept
pub mod Tests
pub mod Total
pub mod Placing
pub mod Exact
pub mod Entities
mod Differing
