pub mod Appends
pub mod ClaimFiles
pub mod Cuts
pub mod Ranges
pub mod Rooms
pub mod SlotLists
pub mod SlotSets
pub mod ForCallers
