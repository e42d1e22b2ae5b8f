mod Walk
mod Cells
mod Writing
mod Reading
mod Ordered
mod Refused
mod RowLaws
