pub mod Steps
pub mod Chains
pub mod Asked
pub mod Capacities
pub mod Taken
pub mod Lines
pub mod NetTexts
pub mod Fills
