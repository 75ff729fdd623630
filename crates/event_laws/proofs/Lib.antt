pub mod Files
pub mod Gone
pub mod Made
pub mod Queues
pub mod Settled
pub mod Steps
pub mod Told
