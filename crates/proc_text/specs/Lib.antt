pub mod Extracting
pub mod Finding
pub mod Kinds
pub mod Parting
pub mod Pieces
pub mod Shapes
