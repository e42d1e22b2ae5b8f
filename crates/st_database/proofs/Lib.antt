mod Brief
mod Fair
pub mod Listed
pub mod Chained
pub mod Frames
pub mod Touching
pub mod Calling
pub mod Serials
pub mod Pairs
pub mod Looking
