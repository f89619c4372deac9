pub mod Callbacks
pub mod Compounds
pub mod Hearing
pub mod Telling
