pub mod Serving
pub mod Copying
