pub mod Causes
pub mod Going
pub mod GoingLaws
pub mod Holding
pub mod Posts
pub mod Right
pub mod Told
