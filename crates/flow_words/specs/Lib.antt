pub mod Arguments
pub mod Numbers
pub mod Seen
pub mod Words
