pub mod Pieces
pub mod Parts
pub mod Reworked
pub mod Changed
pub mod Sibling
pub mod Standing
pub mod Halves
