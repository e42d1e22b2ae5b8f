pub mod Front
pub mod Same
pub mod ByteLaws
pub mod Narrow
