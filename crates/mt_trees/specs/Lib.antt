pub mod Elements
pub mod Laws
pub mod Meaning
pub mod Passages
pub mod Ranges
pub mod Symbols
pub mod Tests
