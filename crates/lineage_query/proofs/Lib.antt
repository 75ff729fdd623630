pub mod Asking
pub mod Joining
pub mod Members
pub mod Seen
pub mod Stepping
pub mod Steps
pub mod Telling
pub mod Walking
