pub mod Beginning
pub mod Blank
pub mod Calling
pub mod Counting
pub mod Following
pub mod Keeping
pub mod Sounding
mod Stopping
