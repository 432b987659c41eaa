pub mod Reaching
pub mod Answer
pub mod Theorems
