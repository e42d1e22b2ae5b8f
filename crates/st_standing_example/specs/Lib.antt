pub mod Ada
