pub mod Database
pub mod Touches
