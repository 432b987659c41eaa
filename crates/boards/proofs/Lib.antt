pub mod Writing
pub mod Beginning
pub mod Answering
pub mod Misread
