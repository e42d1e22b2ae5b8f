pub mod Marked
pub mod Undone
