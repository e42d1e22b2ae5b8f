pub mod Bytes
pub mod Fields
pub mod Grammar
pub mod Parts
pub mod Prefixes
