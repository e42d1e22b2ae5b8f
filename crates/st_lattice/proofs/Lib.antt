mod Tables
mod Lattices
mod Found
mod Within
mod Outside
mod Rising
