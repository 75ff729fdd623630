pub mod Answers
pub mod Asked
pub mod Errors
pub mod Parts
pub mod Texts
pub mod OwnFlow
