pub mod Digests
pub mod Refusals
