pub mod Fitting
pub mod Volumes
pub mod Telling
pub mod ReadBack
