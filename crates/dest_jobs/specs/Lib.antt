pub mod BytesLaws
pub mod Copying
pub mod Counting
pub mod Ending
pub mod EndingLaws
pub mod LandedLaws
pub mod Offloads
pub mod Progress
