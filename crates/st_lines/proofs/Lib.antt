mod Each
mod Joined
mod Next
