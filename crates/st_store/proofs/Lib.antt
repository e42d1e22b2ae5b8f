pub mod Ordering
pub mod Embedded
