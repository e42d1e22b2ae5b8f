pub mod Logged
pub mod Sifted
