pub mod Writing
pub mod Lists
pub mod Decimals
pub mod EventText
pub mod Counting
