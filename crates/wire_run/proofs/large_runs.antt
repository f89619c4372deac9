mod Both
mod Chunks
pub mod Serving
pub mod Tallying
