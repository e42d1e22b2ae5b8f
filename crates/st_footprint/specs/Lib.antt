pub mod Noted
pub mod Terms
pub mod Parts
