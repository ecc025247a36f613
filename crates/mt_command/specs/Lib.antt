pub mod Apart
pub mod Bindings
pub mod Command
pub mod Devices
pub mod Parts
pub mod Policies
pub mod Reading
pub mod Words
