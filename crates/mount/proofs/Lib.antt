pub mod ContextLemmas
pub mod CopyLemmas
pub mod ListLemmas
pub mod OnceLemmas
pub mod PlaceLemmas
pub mod WentLemmas
