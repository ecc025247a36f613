pub mod Bools
pub mod Counts
pub mod Cuts
pub mod Each
pub mod Iterated
pub mod Members
pub mod Pairs
pub mod Positions
