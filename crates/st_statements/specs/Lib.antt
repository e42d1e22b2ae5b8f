pub mod Faults
pub mod Reading
pub mod Terms
pub mod Queries
pub mod Statements
