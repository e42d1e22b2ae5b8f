pub mod InPages
