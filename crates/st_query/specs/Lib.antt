pub mod Ways
pub mod Terms
pub mod Kinds
pub mod Written
pub mod Footprint
