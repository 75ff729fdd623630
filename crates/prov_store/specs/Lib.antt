pub mod Aging
pub mod Blocks
pub mod Events
pub mod Growing
pub mod Loading
pub mod Reading
pub mod Scanning
pub mod State
