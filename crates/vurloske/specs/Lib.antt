pub mod Asked
pub mod Expected
