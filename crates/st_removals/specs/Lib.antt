pub mod Taken
pub mod Clears
pub mod Noting
