pub mod EntryLaws
pub mod OrderLaws
pub mod RowLaws
pub mod StoreLaws
