pub mod Words
pub mod Form
pub mod Fault
pub mod Found
pub mod Output
pub mod Status
pub mod Try
pub mod Ending
