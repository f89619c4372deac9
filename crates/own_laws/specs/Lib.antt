pub mod Following
pub mod Quiet
