pub mod Paged
pub mod Answers
pub mod Laws
