pub mod Begun
pub mod Carried
pub mod Keeping
pub mod Stopped
