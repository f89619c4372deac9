pub mod Settled
pub mod Fits
pub mod Steps
pub mod Seating
pub mod SeatingLaws
