mod Going
pub mod Names
