pub mod Ways
pub mod Pushes
pub mod Numbers
pub mod States
pub mod Leaving
