pub mod Numbers
pub mod Fronts
pub mod Walks
pub mod Laws
pub mod Flat
pub mod Parts
pub mod Exact
