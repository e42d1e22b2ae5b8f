pub mod Flat
pub mod Reading
pub mod Levels
pub mod Views
pub mod Names
pub mod Items
pub mod Nested
