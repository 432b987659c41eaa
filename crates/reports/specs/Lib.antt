pub mod Bytes
pub mod Reported
