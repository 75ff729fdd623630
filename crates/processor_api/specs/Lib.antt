pub mod Acts
pub mod Cloning
pub mod Sessions
