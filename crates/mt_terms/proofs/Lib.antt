pub mod Copied
pub mod Differences
pub mod Placed
pub mod Rows
pub mod Same
pub mod SameTrees
