pub mod Boxes
pub mod Least
pub mod Meets
pub mod Parts
pub mod Visible
