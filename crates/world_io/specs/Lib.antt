pub mod Ascending
pub mod Inbox
pub mod Memory
pub mod MemoryInbox
pub mod MemoryOutbox
pub mod MemoryStream
pub mod Places
