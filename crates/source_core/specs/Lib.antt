pub mod Asking
pub mod CallLaws
pub mod Core
pub mod Judging
pub mod Laws
pub mod Location
pub mod ReadLaws
pub mod Serving
