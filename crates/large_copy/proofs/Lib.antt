pub mod Admitted
pub mod Events
mod Files
mod Fitting
pub mod Lines
mod Quiet
