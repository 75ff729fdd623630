pub mod Laws
pub mod LawsHold
pub mod Number
pub mod Order
pub mod Priority
pub mod Standing
