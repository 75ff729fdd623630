pub mod Address
pub mod Damage
pub mod Errors
