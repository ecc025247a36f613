pub mod Buffers
mod Rows
