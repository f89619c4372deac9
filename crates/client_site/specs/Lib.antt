pub mod Falling
pub mod Sending
pub mod Sites
pub mod Taking
