pub mod Stream
pub mod Source
pub mod Sink
pub mod Memory
pub mod Adapters
pub mod Whole
pub mod Draws
pub mod FrontLaws
