mod Numbers
mod Cells
pub mod Written
