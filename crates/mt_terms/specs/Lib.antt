pub mod Orders
pub mod Terms
pub mod Trees
pub mod Writes
