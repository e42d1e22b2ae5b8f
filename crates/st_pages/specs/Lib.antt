pub mod Attempt
pub mod Calls
pub mod Images
pub mod Searched
pub mod Places
pub mod Chains
pub mod Reading
