pub mod IndexLemmas
pub mod KeyLemmas
pub mod KindLemmas
pub mod LookupLemmas
pub mod MarkLemmas
pub mod PlaceLemmas
pub mod PlacesLemmas
pub mod SpecialLemmas
