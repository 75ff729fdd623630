pub mod Expiring
pub mod Reading
