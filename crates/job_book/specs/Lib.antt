pub mod Book
pub mod Working
