pub mod Alone
pub mod Answered
pub mod Began
pub mod Clones
pub mod Places
pub mod Routed
