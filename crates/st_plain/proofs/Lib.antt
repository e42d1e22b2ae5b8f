pub mod Does
pub mod Ordered
