pub mod Spelling
pub mod Growth
pub mod Names
pub mod Modes
