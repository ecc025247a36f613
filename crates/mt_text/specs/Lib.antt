pub mod Address
pub mod Byte
pub mod Number
