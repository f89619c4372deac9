pub mod JudgingLemmas
pub mod ChildLemmas
pub mod ReplyLemmas
