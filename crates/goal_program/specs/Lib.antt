pub mod Asked
pub mod AskedTerms
pub mod Settings
