mod Checks
mod Dead
mod Fifth
mod Footprints
mod Starts
mod Stepping
