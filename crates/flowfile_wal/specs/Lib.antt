pub mod Calls
pub mod Current
pub mod Errors
pub mod Steps
pub mod Reads
