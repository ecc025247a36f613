pub mod Buffered
pub mod Buffers
pub mod Copy
pub mod Files
pub mod Laws
pub mod Memory
pub mod State
