mod Rows
pub mod Names
pub mod Numbers
pub mod Fronts
pub mod Places
pub mod Quotes
pub mod Words
