pub mod Ledger
pub mod Pools
pub mod Ports
pub mod Whole
