pub mod Counts
pub mod Indexes
pub mod Keys
pub mod Lanes
pub mod Mappings
pub mod Tied
