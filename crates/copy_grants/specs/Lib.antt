pub mod Grants
pub mod Permits
pub mod Runs
