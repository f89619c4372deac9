pub mod Cuts
pub mod Pumping
pub mod Watching
pub mod HeadLaws
