pub mod Forms
pub mod Told
pub mod Create
pub mod Further
