pub mod Along
pub mod Leavings
pub mod Pendings
pub mod Sides
