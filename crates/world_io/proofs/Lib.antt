pub mod Pieces
pub mod Places
pub mod Sorting
pub mod Standing
pub mod Without
pub mod Once
pub mod Indexing
