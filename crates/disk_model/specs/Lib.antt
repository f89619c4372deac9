pub mod Disk
pub mod Elapsed
pub mod MemoryDisk
pub mod Passes
pub mod Pick
pub mod Replay
