pub mod Listing
pub mod Edges
pub mod Timing
pub mod Pacing
