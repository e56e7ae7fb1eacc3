pub mod TermNodeLemmas
pub mod TableLemmas
pub mod TermFlagLemmas
pub mod InternLemmas
pub mod SameTermLemmas
mod ShiftLemmas
pub mod RebuildLemmas
pub mod UnderLemmas
pub mod GrowthLemmas
