pub mod Claims
pub mod Doing
pub mod Jobs
pub mod Keeping
pub mod Quiet
pub mod Turns
