pub mod Boxes
pub mod Canonical
pub mod Headers
pub mod Leaves
pub mod Skip
pub mod Tree
pub mod View
pub mod Walk
