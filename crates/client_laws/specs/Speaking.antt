pub mod Carried
pub mod Fields
pub mod Places
pub mod SayingLaws
pub mod Views
