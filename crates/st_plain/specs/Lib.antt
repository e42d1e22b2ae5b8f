pub mod Base
pub mod Held
pub mod Lists
