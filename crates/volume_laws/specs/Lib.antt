pub mod Failing
pub mod Keeping
pub mod Taking
