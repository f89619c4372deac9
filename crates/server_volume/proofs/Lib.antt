pub mod CallLemmas
pub mod Facts
