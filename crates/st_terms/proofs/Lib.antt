pub mod Looking
pub mod Walks
pub mod Routes
pub mod Admitted
pub mod Queried
pub mod Stores
pub mod Loops
