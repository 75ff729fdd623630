pub mod Anew
pub mod Nothing
