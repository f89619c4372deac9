pub mod Accepting
pub mod Answering
pub mod Counting
pub mod Hanging
pub mod HangingLaws
pub mod Keeping
pub mod Reaching
pub mod Serving
