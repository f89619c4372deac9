pub mod Folds
pub mod Shown
