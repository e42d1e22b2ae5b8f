pub mod Ways
mod Places
