pub mod State
pub mod Legal
pub mod Refusals
pub mod Bases
pub mod Calls
pub mod Rows
