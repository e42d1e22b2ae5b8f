pub mod Numbering
pub mod Reading
