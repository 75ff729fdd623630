pub mod Texts
pub mod Events
pub mod Words
pub mod Writing
pub mod Parts
pub mod Summary
pub mod Counts
