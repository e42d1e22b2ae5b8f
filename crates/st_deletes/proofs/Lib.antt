pub mod Stepwise
pub mod Lasting
pub mod Holders
pub mod Needed
pub mod Ending
