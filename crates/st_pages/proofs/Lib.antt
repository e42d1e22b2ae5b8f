pub mod Searched
pub mod Imaged
pub mod Attempted
pub mod Carried
