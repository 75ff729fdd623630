pub mod Index
pub mod Lists
