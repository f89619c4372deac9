pub mod Asked
pub mod AdmittedLaws
pub mod JudgedLaws
pub mod BytesLaws
