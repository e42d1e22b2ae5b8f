pub mod Bounds
pub mod Using
