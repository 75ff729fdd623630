pub mod Append
pub mod Claims
pub mod Errors
pub mod Room
pub mod SlotSet
pub mod Slots
