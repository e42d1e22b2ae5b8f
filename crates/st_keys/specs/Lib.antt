pub mod Keys
pub mod Causes
