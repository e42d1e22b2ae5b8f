pub mod Print
pub mod Order
pub mod Arranged
pub mod Names
