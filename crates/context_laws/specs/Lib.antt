pub mod View
pub mod TableLaws
pub mod JudgedLaws
pub mod MadeLaws
