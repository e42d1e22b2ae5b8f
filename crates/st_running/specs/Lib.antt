pub mod Named
pub mod Ran
pub mod Steps
