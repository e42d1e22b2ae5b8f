pub mod Short
pub mod Agreeing
