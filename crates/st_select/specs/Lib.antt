pub mod Comparing
pub mod Ranking
pub mod Search
