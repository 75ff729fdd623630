pub mod Ending
pub mod Going
pub mod Journal
pub mod Laws
pub mod Puts
pub mod Run
pub mod Turns
pub mod Work
