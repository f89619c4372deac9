pub mod Falling
pub mod Laws
pub mod Places
pub mod Sending
pub mod State
pub mod Taking
