pub mod Checksum
pub mod Field
pub mod Flow
pub mod Header
pub mod Ipv4
pub mod Packet
pub mod Write
pub mod WriteLaws
