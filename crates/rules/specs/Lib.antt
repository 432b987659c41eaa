pub mod Net
pub mod Rules
pub mod Steps
pub mod Theorems
pub mod Paces
pub mod Rates
pub mod Ranges
pub mod Examples
