pub mod Values
pub mod Alone
pub mod Ends
pub mod Written
pub mod Descent
pub mod Sorts
pub mod Legality
pub mod Cells
pub mod Making
pub mod Whole
mod Spent
