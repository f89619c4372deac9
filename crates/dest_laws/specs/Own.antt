pub mod Going
pub mod GoingLaws
pub mod Begins
