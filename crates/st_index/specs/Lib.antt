pub mod Turned
pub mod Bad
pub mod Noted
pub mod Change
pub mod Found
