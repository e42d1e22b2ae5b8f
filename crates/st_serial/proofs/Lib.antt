mod Stepping
mod Pieces
mod Ongoing
mod Serving
