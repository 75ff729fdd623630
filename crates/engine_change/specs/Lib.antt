pub mod Committing
pub mod Expiring
