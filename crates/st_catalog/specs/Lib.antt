pub mod Stores
pub mod Catalog
pub mod Reading
