pub mod Kept
pub mod Mappings
pub mod Passages
pub mod Tries
