pub mod Walking
pub mod Placing
pub mod Rooted
pub mod Gathered
pub mod Whole
pub mod Catalogs
pub mod Serials
