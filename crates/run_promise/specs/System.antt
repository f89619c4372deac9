pub mod Listing
pub mod Moments
pub mod System
