pub mod Begins
pub mod Clients
pub mod Runs
pub mod Short
pub mod Slots
pub mod Table
pub mod Lives
