pub mod Batch
pub mod Memory
pub mod Reading
pub mod Taken
