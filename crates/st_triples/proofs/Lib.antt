pub mod Parts
pub mod Keys
pub mod Found
pub mod Runs
pub mod OnePart
pub mod Flat
pub mod Steps
pub mod Changes
