pub mod Generating
pub mod Receiving
pub mod Sending
