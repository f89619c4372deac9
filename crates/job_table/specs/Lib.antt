pub mod Fits
pub mod Keys
pub mod Table
pub mod Stored
