pub mod Counts
pub mod DiskCalls
pub mod DiskImages
pub mod DiskPasts
pub mod DiskPicks
pub mod DiskStops
pub mod FileLists
pub mod FileNames
pub mod FileTables
mod MemoryLists
pub mod Moments
pub mod Search
