pub mod StoreName
pub mod Untold
