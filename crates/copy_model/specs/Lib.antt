pub mod Volume
pub mod Effect
pub mod Job
pub mod Marks
pub mod Moment
pub mod Promise
pub mod Laws
pub mod Examples
