pub mod Alone
pub mod Moved
pub mod Named
pub mod Places
pub mod Rows
pub mod Standing
pub mod Together
