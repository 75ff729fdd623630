mod Ascending
mod Nothing
