pub mod Going
pub mod Held
pub mod Jobs
pub mod Seen
