pub mod Edits
pub mod Values
pub mod Steps
