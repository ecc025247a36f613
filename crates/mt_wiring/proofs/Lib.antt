pub mod Pushing
pub mod Counts
pub mod PortNumbers
pub mod RingsFound
pub mod LayersFound
pub mod Ranks
mod Rows
pub mod WiresLeaving
mod RingsCleared
