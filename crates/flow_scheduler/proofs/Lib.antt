mod CheckedOut
mod Closing
mod Counted
mod Ending
mod Growing
mod InTurn
mod Only
pub mod Opened
mod Read
mod Shown
mod Turning
mod Writes
