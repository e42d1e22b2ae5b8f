pub mod Parts
pub mod Marked
pub mod Columns
pub mod Steps
