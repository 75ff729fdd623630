pub mod Joining
pub mod Kinds
pub mod Passing
pub mod Taken
