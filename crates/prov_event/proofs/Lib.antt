pub mod EventLaws
pub mod Fronts
pub mod Sizes
