pub mod Readable
pub mod Soundness
pub mod Trials
