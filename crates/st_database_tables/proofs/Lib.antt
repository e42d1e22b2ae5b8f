pub mod Short
