pub mod Json
pub mod Kinds
pub mod Passing
pub mod Routing
pub mod Setting
