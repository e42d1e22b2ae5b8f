pub mod Attempted
pub mod HowMany
pub mod Laws
pub mod Tried
pub mod Memory
pub mod Slots
pub mod Sound
pub mod Whole
