pub mod CopyLemmas
pub mod Fitting
pub mod Nexts
pub mod Sendings
