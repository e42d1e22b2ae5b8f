pub mod Written
pub mod Checks
pub mod Resolved
pub mod Meaning
pub mod Canonical
pub mod Parts
