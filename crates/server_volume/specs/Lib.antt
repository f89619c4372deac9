pub mod Calls
pub mod Choices
pub mod EffectLaws
pub mod MomentLaws
pub mod Moments
pub mod Store
