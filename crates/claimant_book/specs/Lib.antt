pub mod Stages
pub mod Views
pub mod Kept
pub mod Steps
pub mod Replies
