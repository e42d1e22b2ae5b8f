pub mod OverLists
