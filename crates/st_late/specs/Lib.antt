pub mod Bases
pub mod Late
pub mod Laws
