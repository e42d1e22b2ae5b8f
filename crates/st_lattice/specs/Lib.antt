pub mod Outline
pub mod Lattice
pub mod Consistent
pub mod Features
pub mod Called
pub mod Stores
pub mod Made
