pub mod Ends
pub mod First
pub mod Handling
pub mod Mechanisms
pub mod Opening
pub mod Setting
pub mod Stops
