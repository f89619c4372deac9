pub mod Ended
pub mod Ordered
