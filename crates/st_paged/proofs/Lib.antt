pub mod Reaching
pub mod Asking
pub mod Giving
pub mod Calling
pub mod OfForm
pub mod Selecting
