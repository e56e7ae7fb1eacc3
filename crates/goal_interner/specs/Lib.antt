pub mod TableMeaning
pub mod TermFlags
