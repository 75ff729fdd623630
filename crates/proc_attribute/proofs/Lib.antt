pub mod Duplicating
pub mod Hashing
pub mod Json
pub mod Passed
pub mod Routing
pub mod Updating
