pub mod Joining
pub mod ReadBack
pub mod Refused
pub mod Steps
pub mod Takes
