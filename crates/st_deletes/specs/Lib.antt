pub mod Cleared
pub mod Needs
