pub mod Parts
pub mod Partition
