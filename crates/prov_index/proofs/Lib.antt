pub mod Noting
pub mod Numbered
