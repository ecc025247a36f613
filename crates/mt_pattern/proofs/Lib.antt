mod Ends
mod Faults
mod Printed
mod Read
mod Rows
mod Signs
mod Sound
mod Spans
mod Walk
pub mod Meanings
pub mod Tokens
pub mod Words
